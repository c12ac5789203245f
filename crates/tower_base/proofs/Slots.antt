-- Lists of slots.
use Rattle.std.proofs.Common.{◌≡◌, ◌≢◌, ℕ, ◌<◌, List, Option, Some, None, IfNone, slice_get, slice_set, get_or, length, ap, refl, ◌∙◌}
use Rattle.std.proofs.lemmas.Option.{slice_get_read}
use Rattle.std.proofs.lemmas.List.{set-get_or}
use Rattle.tower_base.specs.Drive.{IsLive, IsKept}
use Rattle.tower_base.specs.declared.drive.Slot.{Slot}
use Rattle.tower_base.specs.declared.drive.Slot.TheVariants.{Live, Finished, Dropped}

module _ {A : Type 0} (xs : List A) (i : ℕ) (x : A) (read : x ≡ get_or xs i x) where
  -- what stands at a place, written back, changes nothing
  pub slice_set_read : slice_set xs i x ≡ xs
  slice_set_read = ap (λ y. slice_set xs i y) read ∙ set-get_or xs i x

  pub slice_get_at : i < length xs → slice_get xs i ≡ Some x
  slice_get_at within = slice_get_read xs (length xs) i x refl within read

pub IsKept-Some : {F : Type 0} (x : Slot F) → x ≢ Dropped → IsKept (Some x)
IsKept-Some (Live f) kept = tt
IsKept-Some (Finished f) kept = tt
IsKept-Some Dropped kept = kept refl

-- a slot that was read, not polled and written back
pub skipped_at : {F P : Type 0} (xs : List (Slot F)) (i : ℕ) (x y : Slot F) (o : Option P) → x ≡ get_or xs i x → i < length xs
    → IfNone o (¬ IsLive (Some x) × (y ≡ x)) → IfNone o (¬ IsLive (slice_get xs i) × (slice_set xs i y ≡ xs))
skipped_at xs i x y (Some p) read within told = tt
skipped_at xs i x y None read within told =
    let at = slice_get_at xs i x read within in (rw at told.0, rw told.1 (slice_set_read xs i x read))
