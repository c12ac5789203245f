use Rattle.std.proofs.Common.{◌≡◌, ◌<◌, [], false, arith, ap, sym, subst, ◌∙◌}
use Rattle.atomic_table.specs.Table.{Allows, step}
use mathlib.Core.Option.{none}
use Rattle.tower_latch.specs.CoreTable.{Agree, Taken, Holds}
use Rattle.tower_latch.proofs.CoreTableMoves.{takes_at}
use Rattle.tower_latch.proofs.guarded.Shared.lock_late.Goals as goal

pub swap-requires : goal.swap-requires
swap-requires g c =
    let place = c.args.self.now.table.shared in
    let room : 0 < place.table_id.words = omega (arith, c.args.self.now.one.0) in
    let tied : c.args.seat.now.table_id ≡ place.table_id = c.requires.its in
    let free : c.args.seat.now.me ≡ (c.args.seat.now.me.0, []) = c.requires.free in
    let without : c.args.seat.now.me.0.has ≡ false = c.requires.without in (
      tied,
      room,
      subst (λ n. Allows (Agree (λ k. g.C.Core.terms k.core ≡ place.key) (λ k. g.C.Core.out k.core)) n c.args.seat.now.id c.args.seat.now.me 0 (λ _. 1) (Taken (λ k. g.K.Known.are (g.C.Core.terms k.core)) (λ k. g.C.Core.out k.core) (step n 0 1 0 none) c.args.seat.now.me)) (sym c.args.self.now.one.1)
          (takes_at (λ k. g.C.Core.terms k.core ≡ place.key) (λ k. g.C.Core.out k.core) (λ k. g.K.Known.are (g.C.Core.terms k.core)) (λ k its. subst g.K.Known.are (sym its) c.requires.known) c.args.seat.now.id 1 c.args.seat.now.me.0 c.args.seat.now.me free without (λ e. omega (arith, e))),
    )

pub swap-requires-in-loop : goal.swap-requires-in-loop
swap-requires-in-loop g c =
    let place = c.args.self.now.table.shared in
    let room : 0 < place.table_id.words = omega (arith, c.args.self.now.one.0) in
    let same : c.loop.seat.me ≡ c.args.seat.now.me = c.loop.invariant.same in
    let tied : c.loop.seat.table_id ≡ place.table_id = c.loop.invariant.its ∙ c.requires.its in
    let free : c.loop.seat.me ≡ (c.loop.seat.me.0, []) = cc (same, c.requires.free) in
    let without : c.loop.seat.me.0.has ≡ false = cc (same, c.requires.without) in (
      tied,
      room,
      subst (λ n. Allows (Agree (λ k. g.C.Core.terms k.core ≡ place.key) (λ k. g.C.Core.out k.core)) n c.loop.seat.id c.loop.seat.me 0 (λ _. 2) (Taken (λ k. g.K.Known.are (g.C.Core.terms k.core)) (λ k. g.C.Core.out k.core) (step n 0 2 0 none) c.loop.seat.me)) (sym c.args.self.now.one.1)
          (takes_at (λ k. g.C.Core.terms k.core ≡ place.key) (λ k. g.C.Core.out k.core) (λ k. g.K.Known.are (g.C.Core.terms k.core)) (λ k its. subst g.K.Known.are (sym its) c.requires.known) c.loop.seat.id 2 c.loop.seat.me.0 c.loop.seat.me free without (λ e. omega (arith, e))),
    )

pub returns-then-swap-eq0-clause-has : goal.returns-then-swap-eq0-clause-has
returns-then-swap-eq0-clause-has g c = c.swap.ensures.2.0 c.if-swap-eq0.true

pub returns-then-swap-eq0-2-clause-has : goal.returns-then-swap-eq0-2-clause-has
returns-then-swap-eq0-2-clause-has g c = subst (λ v. Holds (λ k. g.K.Known.are (g.C.Core.terms k.core)) (λ k. g.C.Core.out k.core) v c.swap-in-loop.new.seat.me) (ap (λ m. m.0) c.loop.invariant.same) (c.swap-in-loop.ensures.2.0 c.if-swap-eq0-2.true)
