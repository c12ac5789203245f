use Rattle.tower_base.proofs.Slots.{skipped_at}
use Rattle.tower_base.proofs.drive.poll_at.Goals as goal

pub returns-clause-skipped : goal.returns-clause-skipped
returns-clause-skipped g c = skipped_at _ _ _ _ _ c.in_ok-slot.ensures.value c.in_ok-slot.ensures.item.3.0 c.poll_slot.ensures.skipped
