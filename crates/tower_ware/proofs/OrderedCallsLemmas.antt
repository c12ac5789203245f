-- Slots that are asked one after another.
use Rattle.std.proofs.Common.{◌≡◌, ℕ, suc, ◌<◌, List, [], ◌∷◌, length, refl, slice_index_or, arith}
use Rattle.tower_base.specs.declared.service.Steps.{Ghosts as StepsOf}
use Rattle.tower_ware.specs.OrderedCalls.{EachPolled, OthersPolled, SlotPolled}
use Rattle.tower_ware.specs.declared.util.call_all.slot.Slot.{Slot}

module _ {F T : Type 0} (f : StepsOf F T) where
  -- what was asked at each index
  pub each_asked : (old new : List (Slot F T)) → length new ≡ length old
      → ((k : ℕ) (d : Slot F T) → k < length old → SlotPolled f (slice_index_or old k d) (slice_index_or new k d)) → EachPolled f old new
  each_asked [] [] size asked = refl
  each_asked [] (t ∷ ts) size asked = absurd (omega arith)
  each_asked (s ∷ ss) [] size asked = absurd (omega arith)
  each_asked (s ∷ ss) (t ∷ ts) size asked =
      (t, asked 0 s (omega arith), (ts, each_asked ss ts (omega arith) (λ k d below. asked (suc k) d (omega arith)), refl))

  -- the same of all but the front
  pub others_asked : (old new : List (Slot F T)) → length new ≡ length old
      → ((d : Slot F T) → 0 < length old → slice_index_or new 0 d ≡ slice_index_or old 0 d)
      → ((k : ℕ) (d : Slot F T) → 0 < k → k < length old → SlotPolled f (slice_index_or old k d) (slice_index_or new k d)) → OthersPolled f old new
  others_asked [] [] size front asked = refl
  others_asked [] (t ∷ ts) size front asked = absurd (omega arith)
  others_asked (s ∷ ss) [] size front asked = absurd (omega arith)
  others_asked (s ∷ ss) (t ∷ ts) size front asked =
      (ts, each_asked ss ts (omega arith) (λ k d below. asked (suc k) d (omega arith) (omega arith)), rw (front s (omega arith)) refl)
