-- Futures that are polled where they are kept.
use Rattle.std.specs.Prelude.{◌≡◌, Option, Some, None}
use Rattle.futures.specs.declared.task.Poll.{Poll}
use Rattle.futures.specs.declared.task.Poll.TheVariants.{Ready, Pending}

-- A place without a future stays empty. A future is polled once. If it is pending, the place keeps it; if it returns its output, the place
-- is empty.
abbrev pub PolledThere : {F R : Type 0} → (F → Poll R → F → Type 0) → Option F → Option (Poll R) → Option F → Type 0
PolledThere stepped None None new = new ≡ None
PolledThere stepped (Some old) (Some Pending) (Some new) = stepped old Pending new
PolledThere stepped (Some old) (Some (Ready x)) None = (left : _) × stepped old (Ready x) left
PolledThere stepped None (Some answer) new = ⊥
PolledThere stepped (Some old) None new = ⊥
PolledThere stepped (Some old) (Some Pending) None = ⊥
PolledThere stepped (Some old) (Some (Ready x)) (Some new) = ⊥
