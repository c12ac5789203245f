use Rattle.std.proofs.Common.{◌≡◌, None}
use Rattle.tower_ware.specs.CallAll.{New}
use Rattle.tests_ware.proofs.Gathered.{gathered}
use Rattle.tests_ware.proofs.orders.unordered.Goals as goal

pub returns-in-Ready-Ok : goal.returns-in-Ready-Ok
returns-in-Ready-Ok g c =
    let gave = rw c.in-Ready-Ok.field-0-is at c.in-Ready-Ok.ensures.value in
    let new : New c.args.calls.service c.args.calls.requests c.args.calls.kept c.collect-all.result.stream = rw c.collect-all.ensures.0 c.unordered.ensures in
    let came = c.law.ensures.unordered c.args.calls.service c.args.calls.requests c.args.calls.kept c.collect-all.result.stream gave.0 new
    (c.law.ensures.calm_unordered c.requires.calm c.collect-all.result.stream gave.0 None gave.1) in
    let items : c.in-Ready-Ok.items.items ≡ gave.0 = gathered _ _ _ gave.2 c.collect-all.ensures.1 in
    (came.0, came.1, rw items came.2)
