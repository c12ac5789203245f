-- An `Optional` whose poll of readiness returned `Ok` is ready.
use Rattle.std.specs.Prelude.{Option, Some, None, IfSome, Result, Ok}
use Rattle.futures.specs.declared.task.Poll.{Poll}
use Rattle.futures.specs.declared.task.Poll.TheVariants.{Ready}
use Rattle.tower_base.specs.AnswersLemmas.{answered_ok}
use Rattle.tower_util.specs.Optional.{Polled}
use Rattle.tower_util.specs.declared.util.optional.error.Error.TheVariants.{Inner}

module _ {S E : Type 0} (polled : S → Poll (Result (Unit {0}) E) → S → Type 0)
    (ready : S → Type 0) (readies : (old new : S) → polled old (Ready (Ok tt)) new → ready new) where
  pub polled_ready : (old new : Option S) → Polled polled old (Ready (Ok tt)) new → IfSome new ready
  polled_ready (Some service) new h = let inside = answered_ok Inner h.0 tt h.3 in rw h.4 (readies service h.1 (rw inside at h.2))
  polled_ready None new h = rw h.1 tt
