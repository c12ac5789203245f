use Rattle.std.proofs.Common.{◌≡◌, ◌<◌, [], arith, ap, sym, subst, ◌∙◌}
use Rattle.atomic_table.specs.Table.{Allows, step}
use mathlib.Core.Option.{none}
use Rattle.tower_latch.specs.CoreTable.{Agree, Taken, Holds}
use Rattle.tower_latch.proofs.CoreTableMoves.{takes_at}
use Rattle.tower_latch.proofs.guarded.Guarded.lock_with.Goals as goal

pub swap-found-requires : goal.swap-found-requires
swap-found-requires g c =
    let place = c.deref.result.now.table.shared in
    let room : 0 < place.table_id.words = omega (arith, c.deref.result.now.one.0) in
    let seat = c.into_seat-seat.result in
    let tied : seat.table_id ≡ place.table_id = c.into_seat-seat.ensures.its ∙ c.requires.its ∙ ap (λ v. v.table) (sym c.self.view_is) ∙ sym (ap (λ t. t.table.shared.table_id) c.deref.ensures) in
    let free : seat.me ≡ (seat.me.0, []) = ap (λ l. (seat.me.0, l)) c.into_seat-seat.ensures.away.0 in
    let same : c.args.self.now.terms ≡ place.key = ap (λ v. v.terms) (sym c.self.view_is) ∙ sym (ap (λ t. t.table.shared.key) c.deref.ensures) in (
      tied,
      room,
      subst (λ n. Allows (Agree (λ k. g.C.Core.terms k.core ≡ place.key) (λ k. g.C.Core.out k.core)) n seat.id seat.me 0 (λ _. 1) (Taken (λ k. g.K.Known.are (g.C.Core.terms k.core)) (λ k. g.C.Core.out k.core) (step n 0 1 0 none) seat.me)) (sym c.deref.result.now.one.1)
          (takes_at (λ k. g.C.Core.terms k.core ≡ place.key) (λ k. g.C.Core.out k.core) (λ k. g.K.Known.are (g.C.Core.terms k.core)) (λ k its. subst g.K.Known.are (same ∙ sym its) c.requires.known) seat.id 1 seat.me.0 seat.me free c.into_seat-seat.ensures.away.1 (λ e. omega (arith, e))),
    )

pub returns-then-found-ne0-clause-has : goal.returns-then-found-ne0-clause-has
returns-then-found-ne0-clause-has g c = (
  c.into_seat-seat.result.me.0,
  c.into_seat-seat.ensures.views,
  subst (λ v. Holds (λ k. g.K.Known.are (g.C.Core.terms k.core)) (λ k. g.C.Core.out k.core) v c.lock_late.new.seat.me) (ap (λ m. m.0) (c.swap-found.ensures.2.1 c.if-found-ne0.true)) c.lock_late.ensures.has,
)

pub returns-else-found-ne0-clause-has : goal.returns-else-found-ne0-clause-has
returns-else-found-ne0-clause-has g c = (c.into_seat-seat.result.me.0, c.into_seat-seat.ensures.views, c.swap-found.ensures.2.0 c.if-found-ne0.false)
