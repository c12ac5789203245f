-- The machine of `hedge`.
use Rattle.std.specs.Prelude.{◌≡◌, Bool, true, false, Result}
use Rattle.std.specs.declared.convert.Infallible.{Infallible}
use Rattle.futures.specs.declared.task.Poll.{Poll}
use Rattle.tower_base.specs.Answers.{answered}
use Rattle.tower_base.specs.declared.service.Steps.{Ghosts as StepsOf}
use Rattle.tower_retry.specs.Delay.{DelayView}
use Rattle.tower_retry.specs.HedgePolicies.{DelayPolicyView, SelectPolicyView}
use Rattle.tower_retry.specs.Latency.{LatencyView}
use Rattle.tower_limit.specs.RotatingHistogram.{RotatingHistogramView}
use Rattle.tower_retry.specs.Select.{SelectView}
use Rattle.tower_ware.specs.Filter.{FilterView}
use Rattle.tower_retry.specs.declared.hedge.check.CheckState.{CheckState}
use Rattle.tower_retry.specs.declared.hedge.check.CheckState.TheVariants.{Passed, Given, Waiting}
use Rattle.tower_retry.specs.declared.hedge.delay.error.Error.{Error as DelayError}
use Rattle.tower_retry.specs.declared.hedge.delay.error.Error.TheVariants.{Inner as DelayInner, Memory as DelayMemory}
use Rattle.tower_retry.specs.declared.hedge.error.Error.{Error}
use Rattle.tower_retry.specs.declared.hedge.error.Error.TheVariants.{Inner, Memory}
use Rattle.tower_retry.specs.declared.hedge.policy.Policy.{Ghosts as PolicyOf}
use Rattle.tower_retry.specs.declared.hedge.select.error.Error.{Error as SelectError}
use Rattle.tower_retry.specs.declared.hedge.select.error.Error.TheVariants.{First, Second}
use Rattle.tower_ware.specs.declared.filter.error.Error.{Error as FilterError}
use Rattle.tower_ware.specs.declared.filter.error.Error.TheVariants.{Inner as Filtered, Rejected, Memory as NoFiltered}

-- A service whose latencies a histogram records. A `Hedge` is a `Select` of such a service and of another, which is filtered and delayed besides.
abbrev pub RecordedView : Type 0 → Type 0 → Type 0 → Type 0
RecordedView S L C = LatencyView (RotatingHistogramView L C) S C

abbrev pub HedgeView : Type 0 → Type 0 → Type 0 → Type 0 → Type 0
HedgeView S P L C = SelectView (SelectPolicyView P L C) (RecordedView S L C) (DelayView (DelayPolicyView L C) (FilterView (RecordedView S L C) P) C)

-- the error of the nest of services, as the error of a `Hedge`
abbrev pub flat : {E : Type 0} → SelectError E (DelayError (FilterError E Infallible)) → Error E
flat (First e) = Inner e
flat (Second (DelayInner (Filtered e))) = Inner e
flat (Second (DelayInner (Rejected never))) = elim never [ ]
flat (Second (DelayInner NoFiltered)) = Memory
flat (Second DelayMemory) = Memory

-- a poll of readiness: one poll of the nest
pub record Polled {N E : Type 0} (polled_inside : N → Poll (Result (Unit {0}) (SelectError E (DelayError (FilterError E Infallible)))) → N → Type 0)
    (old : N) (answer : Poll (Result (Unit {0}) (Error E))) (new : N) : Type 0 where
  pub inner : Poll (Result (Unit {0}) (SelectError E (DelayError (FilterError E Infallible))))
  pub polled : polled_inside old inner new
  pub answers : answer ≡ answered flat inner

-- a poll of the future: one poll of the nest's
pub record Stepped {A E F : Type 0} (f : StepsOf F (Result A (SelectError E (DelayError (FilterError E Infallible)))))
    (old : F) (answer : Poll (Result A (Error E))) (new : F) : Type 0 where
  pub inner : Poll (Result A (SelectError E (DelayError (FilterError E Infallible))))
  pub stepped : f.stepped old inner new
  pub answers : answer ≡ answered flat inner

-- The state in which a check of a request begins, by what the policy decides. A request that may be made again passes. For any other the check is
-- never ready.
abbrev pub ChecksTo : {Q N : Type 0} → Q → Bool → CheckState Q N → Type 0
ChecksTo request allowed (Passed kept) = (allowed ≡ true) × (kept ≡ request)
ChecksTo request allowed (Waiting never) = allowed ≡ false
ChecksTo request allowed Given = ⊥

-- a check, as the filter of the second side makes it: the policy is asked once
pub record Checked {P Q N : Type 0} (p : PolicyOf P Q) (old : P) (request : Q) (future : CheckState Q N) (new : P) : Type 0 where
  pub allowed : Bool
  pub decided : p.allowed old request allowed
  pub checks : ChecksTo request allowed future
  pub same : new ≡ old
