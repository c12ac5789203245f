-- Which replies a count gives.
use Rattle.std.proofs.Common.{◌≡◌, ℕ, refl}
use Rattle.tower_latch.specs.Latch.{StepsAs}
use Rattle.tower_limit.specs.CountCore.{StandsFor}
use Rattle.tower_limit.specs.Holders.{HolderSteps}
use Rattle.tower_limit.specs.declared.load.pending_requests.count_core.CountCore.{CountCore}
use Rattle.tower_limit.specs.declared.load.pending_requests.count_core.CountReply.{CountReply}
use Rattle.tower_limit.specs.declared.load.pending_requests.count_core.CountReply.TheVariants.{Counted, Full, Done, Count, Unknown}
use Rattle.tower_limit.specs.declared.load.pending_requests.count_core.CountStep.TheVariants.{Load}

-- only a number replies to a question for the load
pub loads : (reply : CountReply) → (old : CountCore) × (new : CountCore) × StepsAs StandsFor HolderSteps old Load reply new → ((n : ℕ) → reply ≡ Count n → ⊥) → ⊥
loads (Count n) came other = other n refl
loads Counted came other = (came.2.1 came.2.0.0 came.2.0.1).1
loads Full came other = (came.2.1 came.2.0.0 came.2.0.1).1
loads Done came other = (came.2.1 came.2.0.0 came.2.0.1).1
loads Unknown came other = (came.2.1 came.2.0.0 came.2.0.1).1
