-- What a `Hedge` keeps to, over one response. (`gave`: as in RotatingHistogram.antt.)
use Rattle.std.specs.Prelude.{◌≡◌, ◌⊎◌, ◌<◌, ◌≤◌, ℕ, suc, ◌+◌, true, false, Option, Some, None, Result, Err}
use Rattle.futures.specs.declared.task.Poll.{Poll}
use Rattle.tower_base.specs.declared.service.Clock.{Ghosts as ClockOf}
use Rattle.tower_base.specs.declared.service.Service.{Ghosts as ServiceOf}
use Rattle.tower_laws.specs.Delay.{OncePast}
use Rattle.tower_laws.specs.Responses.{AtOnce, Call, Comes, OnceReady, wrapped}
use Rattle.tower_limit.specs.RotatingHistogram.{Counted}
use Rattle.tower_limit.specs.declared.hedge.rotating_histogram.steps.HistoStep.{HistoStep}
use Rattle.tower_limit.specs.declared.hedge.rotating_histogram.steps.HistoReply.{HistoReply}
use Rattle.tower_retry.specs.Hedge.{HedgeView}
use Rattle.tower_retry.specs.HedgePolicies.{DelayComputed}
use Rattle.tower_retry.specs.declared.hedge.error.Error.{Error}
use Rattle.tower_retry.specs.declared.hedge.error.Error.TheVariants.{Inner, Memory}
use Rattle.tower_retry.specs.declared.hedge.policy.Policy.{Ghosts as PolicyOf}

module _ {S P L C Q A E F : Type 0} (s : ServiceOf S Q A E F) (stepped : F → Poll (Result A E) → F → Type 0) (p : PolicyOf P Q)
    (policy_clone : P → P → Type 0) (service_clone : S → S → Type 0) (gave : L → HistoStep → HistoReply → Type 0) (c : ClockOf C) where
  -- The policy made a copy, and there are enough latencies.
  abbrev pub Copies : HedgeView S P L C → HedgeView S P L C → Q → Q → Type 0
  Copies old new request copy = p.cloned old.policy.policy request (Some copy)
      × (points : ℕ) × Counted gave c old.policy.histogram points new.policy.histogram × (old.policy.min_data_points ≤ points)

  -- The policy made no copy, or there are too few latencies.
  abbrev pub CopiesNone : HedgeView S P L C → HedgeView S P L C → Q → Type 0
  CopiesNone old new request = p.cloned old.policy.policy request None ⊎ ((copy : Q) × p.cloned old.policy.policy request (Some copy)
      × (points : ℕ) × Counted gave c old.policy.histogram points new.policy.histogram × (points < old.policy.min_data_points))

  -- The service is ready. It isn't called if a clone before its call was refused, which is `Memory`, or if the policy doesn't allow the copy: then no
  -- output ever comes. Otherwise it is called with the copy in that same poll, once.
  abbrev pub CallIfAllowed : P → S → Q → ℕ → Option (Result A (Error E)) → Type 0
  CallIfAllowed policy service copy polls output = AtOnce (Err Memory) polls output
      ⊎ ((p.allowed policy copy false × (output ≡ None))
      ⊎ (p.allowed policy copy true × (answer : Option (Result A E)) × Call s stepped service copy polls answer × (output ≡ wrapped Inner answer)))

  -- Once the delay is over, from a reading at the call on, and a clone of the service is ready, it is called, if a clone of the policy allows it.
  abbrev pub CallAfter : HedgeView S P L C → ℕ → Q → ℕ → Option (Result A (Error E)) → Type 0
  CallAfter old delay copy polls output = (share clock : C) × c.shared old.b.clock share × c.read share clock
      × (policy : P) × policy_clone old.b.service.predicate policy × (service : S) × service_clone old.b.service.inner.service service
      × OncePast c clock (c.reading clock + delay) (OnceReady s Inner (λ willing. CallIfAllowed policy willing copy) service) polls output

  -- What comes of the second side. Without a copy nothing does, and that side stays as it was. With one its delay is the one that the histogram names. If
  -- a clone was refused at the call, `Memory` comes. (Each such clone has a share of the histogram, which may be refused at any time.)
  abbrev pub SecondSide : HedgeView S P L C → HedgeView S P L C → Q → ℕ → Option (Result A (Error E)) → Type 0
  SecondSide old new request polls output = (CopiesNone old new request × (new.b ≡ old.b) × (output ≡ None))
      ⊎ ((copy : Q) × Copies old new request copy × (delay : ℕ) × DelayComputed gave c old.b.policy copy delay new.b.policy
      × (AtOnce (Err Memory) polls output ⊎ CallAfter old delay copy polls output))

  -- The first side makes one call. Either its answer is returned, and the second side had none before. Or the second side's answer is returned, and the
  -- first has none in that poll either.
  abbrev pub HedgesOnce : {H : Type 0} → (HedgeView S P L C → Q → H → HedgeView S P L C → Type 0) → (H → Poll (Result A (Error E)) → H → Type 0) → Type 0
  HedgesOnce {H} called outside = (old new : HedgeView S P L C) (request : Q) (future : H) (polls : ℕ) (output : Result A (Error E))
      → called old request future new → Comes outside polls future (Some output)
      → ((answer : Result A E) × Call s stepped old.a.service request polls (Some answer) × SecondSide old new request polls None × (Some output ≡ wrapped Inner (Some answer)))
      ⊎ (Call s stepped old.a.service request (suc polls) None × SecondSide old new request polls (Some output))
