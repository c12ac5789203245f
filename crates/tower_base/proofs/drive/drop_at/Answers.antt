use Rattle.std.proofs.Common.{refl}
use Rattle.tower_base.proofs.Slots.{slice_set_read, slice_get_at, IsKept-Some}
use Rattle.tower_base.proofs.drive.drop_at.Goals as goal

pub returns-in-Dropped-clause-skipped : goal.returns-in-Dropped-clause-skipped
returns-in-Dropped-clause-skipped g c e =
    let at = slice_get_at c.args.slots.now.items c.args.index c.in-Some.slot.now c.in-Some.ensures.value c.in-Some.ensures.item.3.0 in
    (rw (at, c.in-Dropped.is) (λ kept. kept), slice_set_read _ _ _ c.in-Some.ensures.value)

pub returns : goal.returns
returns g c =
    let at = slice_get_at c.args.slots.now.items c.args.index c.in-Some.slot.now c.in-Some.ensures.value c.in-Some.ensures.item.3.0 in
    record { dropped = λ e. (rw at (IsKept-Some _ c.in_default-slot.not-Dropped), refl); skipped = λ e. absurd (cc) }
