-- The count of live holders, as a plain list.
use Rattle.std.specs.Prelude.{◌≡◌, ◌<◌, ◌-◌, ◌^◌, ℕ, List, [], ◌∷◌, ◌++◌, length, remove}
use Rattle.tower_limit.specs.declared.load.pending_requests.count_core.CountStep.{CountStep}
use Rattle.tower_limit.specs.declared.load.pending_requests.count_core.CountStep.TheVariants.{Take, Give, Load}
use Rattle.tower_limit.specs.declared.load.pending_requests.count_core.CountReply.{CountReply}
use Rattle.tower_limit.specs.declared.load.pending_requests.count_core.CountReply.TheVariants.{Counted, Full, Done, Count, Unknown}

-- A live holder that was counted. Holders can't be told apart.
pub data Holder : Type 0 where
  holder : Holder

-- the greatest number that can be counted
abbrev pub most : ℕ
most = 2 ^ 64 - 1

-- With these holders, the step may give this reply and leave the new ones.
abbrev pub HolderSteps : List Holder → CountStep → CountReply → List Holder → Type 0
-- One more is counted, if it can be.
HolderSteps old Take Counted new = (length old < most) × (new ≡ old ++ Holder.holder ∷ [])
HolderSteps old Take Full new = (length old ≡ most) × (new ≡ old)
-- A holder is gone.
HolderSteps old Give Done new = (place : ℕ) × (place < length old) × (new ≡ remove old place)
HolderSteps old Give Unknown new = (old ≡ []) × (new ≡ old)
-- The load is their number.
HolderSteps old Load (Count n) new = (n ≡ length old) × (new ≡ old)
-- No other reply is given.
HolderSteps old _ _ new = ⊥
