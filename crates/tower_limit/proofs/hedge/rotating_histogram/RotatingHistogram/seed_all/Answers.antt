use Rattle.std.proofs.Common.{add-one, refl}
use Rattle.std.proofs.Math.Seq.{drop-cons}
use Rattle.std.proofs.lemmas.List.{drop_all}
use Rattle.tower_limit.proofs.hedge.rotating_histogram.RotatingHistogram.seed_all.Goals as goal

pub loop-millis-preserved : goal.loop-millis-preserved
loop-millis-preserved g c = λ new seeded.
    let rest = rw add-one at seeded in
    c.loop-millis.invariant new (rw (drop-cons c.args.latencies.now c.loop-millis.millis-index 0 c.loop-millis-test.true) (c.seed.new.self, c.seed.ensures, rest))

pub returns : goal.returns
returns g c = c.loop-millis.invariant c.loop-millis.self (rw (drop_all c.loop-millis.millis-index c.args.latencies.now c.loop-millis-test.false) refl)
