-- Waiting on the calling thread is a run of the service.
use Rattle.std.specs.Prelude.{ℕ, List, [], ◌∷◌, ◌++◌, Result}
use Rattle.futures.specs.declared.task.Poll.{Poll}
use Rattle.tower_base.specs.Projection.{AtMostOnce, Each as EachMakes, RunInside, Through}
use Rattle.tower_base.specs.ServiceRun.{relations}
use Rattle.tower_base.specs.declared.service.Service.{Ghosts as ServiceOf}
use Rattle.tower_base.specs.declared.service.Clock.{Ghosts as ClockOf}
use Rattle.tower_limit.specs.Rate.{RateLimitView, StandsFor, initial}
use Rattle.tower_limit.specs.RateRun.{AtMostIn, KeepsRate, call_moments}
use Rattle.tower.specs.Waits.{Waited, Answered, Each}

module _ {S Q A E F : Type 0} (s : ServiceOf S Q A E F) where
  -- The service ran from `old` to `new`. Each of the requests, in order, was made of it once, or, since its readiness failed, not at all.
  abbrev pub Ran : List Q → S → S → Type 0
  Ran requests old new = RunInside (relations s) (EachMakes AtMostOnce requests) old new

  -- The service ran from `old` to `new`, with some requests.
  abbrev pub RanOn : S → S → Type 0
  RanOn old new = (requests : List Q) × Ran requests old new

-- Waiting is a run, which makes the requests that were waited for. A run and one that continues from it are one run.
pub record WaitsRun {S Q A E F : Type 0} (s : ServiceOf S Q A E F) (stepped : F → Poll (Result A E) → F → Type 0) : Type 0 where
  pub waited : (old new : S) (answer : Result (Unit {0}) E) → Waited s old answer new → Ran s [] old new
  pub answered : (old new : S) (request : Q) (answer : Result A E) → Answered s stepped old request answer new → Ran s (request ∷ []) old new
  pub joined : (first second : List Q) (old mid new : S) → Ran s first old mid → Ran s second mid new → Ran s (first ++ second) old new

-- So is a loop of calls.
abbrev pub LoopsRun : {S Q A E F C : Type 0} → ServiceOf S Q A E F → (F → Poll (Result A E) → F → Type 0) → (C → Result A E → Unit {0} → C → Type 0) → Type 0
LoopsRun {S} {Q} {C = C} s stepped told = (requests : List Q) (old new : S) (each last : C) → Each s stepped told requests old each new last → Ran s requests old new

-- The calls that reach a rate limit keep to its rate, and any half-open interval of length `per` has at most `num` of them.
pub record WithinRate {S C Q R A E F : Type 0} (num per : ℕ) (s : ServiceOf S R A E F) (c : ClockOf C) (goes : Q → List R → Type 0) (first : RateLimitView S C) (made : List Q) (last : RateLimitView S C) : Type 0 where
  pub kept : KeepsRate s c goes first made last
  pub bound : AtMostIn num per (call_moments c kept.transitions)

-- If no call was made of the limit before, its number and its period are `num` and `per`.
abbrev pub IfNew : {S C : Type 0} → RateLimitView S C → (ℕ → ℕ → Type 0) → Type 0
IfNew limit P = (num per : ℕ) → StandsFor limit.core (initial num per) → P num per

-- Whatever run a stack had, the calls that reach the limit inside it keep to its rate.
abbrev pub RunsWithin : {W S C Q R A E F B D G : Type 0} → ServiceOf W Q B D G → ServiceOf S R A E F → ClockOf C → (W → RateLimitView S C) → (Q → List R → Type 0) → Type 0
RunsWithin {W} {Q = Q} w s c inside goes = (requests : List Q) (old new : W) → Ran w requests old new → KeepsRate s c (Through AtMostOnce goes) (inside old) requests (inside new)
