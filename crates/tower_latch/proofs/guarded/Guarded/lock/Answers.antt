use Rattle.std.proofs.Common.{◌≡◌, ◌<◌, [], arith, ap, sym, subst, ◌∙◌}
use Rattle.atomic_table.specs.Table.{Arrives, step}
use mathlib.Core.Option.{none}
use Rattle.tower_latch.specs.CoreTable.{Agree, Taken, Holds, initial}
use Rattle.tower_latch.proofs.CoreTableMoves.{arrives}
use Rattle.tower_latch.proofs.guarded.Guarded.lock.Goals as goal

pub swap_new_seat-found-requires : goal.swap_new_seat-found-requires
swap_new_seat-found-requires g c =
    let place = c.deref.result.now.table.shared in
    let same : c.args.self.now.terms ≡ place.key = ap (λ v. v.terms) (sym c.self.view_is) ∙ sym (ap (λ t. t.table.shared.key) c.deref.ensures) in
    let room : 0 < place.table_id.words = omega (arith, c.deref.result.now.one.0) in (
      room,
      subst (λ n. Arrives (Agree (λ k. g.C.Core.terms k.core ≡ place.key) (λ k. g.C.Core.out k.core)) n 0 (λ _. 1) (Taken (λ k. g.K.Known.are (g.C.Core.terms k.core)) (λ k. g.C.Core.out k.core) (step n 0 1 0 none) (initial, []))) (sym c.deref.result.now.one.1)
          (arrives (λ k. g.C.Core.terms k.core ≡ place.key) (λ k. g.C.Core.out k.core) (λ k. g.K.Known.are (g.C.Core.terms k.core)) (λ k its. subst g.K.Known.are (same ∙ sym its) c.requires)),
    )

pub returns-then-found-ne0-clause-has : goal.returns-then-found-ne0-clause-has
returns-then-found-ne0-clause-has g c =
    let was : c.swap_new_seat-found.result.1.me ≡ (initial, []) = c.swap_new_seat-found.ensures.1.1 c.if-found-ne0.true in
    subst (λ v. Holds (λ k. g.K.Known.are (g.C.Core.terms k.core)) (λ k. g.C.Core.out k.core) v c.lock_late.new.seat.me) (ap (λ m. m.0) was) c.lock_late.ensures.has

pub returns-else-found-ne0-clause-has : goal.returns-else-found-ne0-clause-has
returns-else-found-ne0-clause-has g c = c.swap_new_seat-found.ensures.1.0 c.if-found-ne0.false
