use Rattle.std.proofs.Common.{◌≡◌, ◌<◌, [], ◌∷◌, arith, ap, sym, subst, ◌∙◌}
use Rattle.atomic_table.specs.Table.{Allows, step}
use mathlib.Core.Option.{none}
use Rattle.tower_latch.specs.CoreTable.{Agree, Freed}
use Rattle.tower_latch.proofs.CoreTableMoves.{frees_at}
use Rattle.tower_latch.proofs.guarded.Shared.free.Goals as goal

pub swap-requires : goal.swap-requires
swap-requires g c =
    let place = c.args.self.now.table.shared in
    let room : 0 < place.table_id.words = omega (arith, c.args.self.now.one.0) in
    let tied : c.args.seat.table_id ≡ place.table_id = c.requires.its in
    let h = c.requires.core in
    let me : c.args.seat.me ≡ (c.args.seat.me.0, (0, h.0) ∷ []) = ap (λ l. (c.args.seat.me.0, l)) h.1 in
    let terms : g.C.Core.terms h.0.core ≡ place.key = h.2 in (
      tied,
      room,
      subst (λ n. Allows (Agree (λ k. g.C.Core.terms k.core ≡ place.key) (λ k. g.C.Core.out k.core)) n c.args.seat.id c.args.seat.me 0 (λ _. 0) (Freed (λ k. g.C.Core.out k.core) (step n 0 0 0 none) c.args.seat.me)) (sym c.args.self.now.one.1)
          (frees_at (λ k. g.C.Core.terms k.core ≡ place.key) (λ k. g.C.Core.out k.core) c.args.seat.id c.args.seat.me.0 h.0 c.args.seat.me me c.requires.has terms h.3),
    )

pub returns : goal.returns
returns g c =
    let left = c.swap.ensures.2 in
    record {
      its = cc (c.into_badge.ensures.0, c.swap.ensures.0, c.requires.its);
      left = (left.0, left.1, c.into_badge.ensures.2 ∙ ap (λ m. m.0 ∷ []) left.2, left.3);
    }
