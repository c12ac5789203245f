-- A map whose poll of readiness returned `Ok` is ready.
use Rattle.std.specs.Prelude.{Result, Ok}
use Rattle.futures.specs.declared.task.Poll.{Poll}
use Rattle.futures.specs.declared.task.Poll.TheVariants.{Ready}
use Rattle.tower_base.specs.AnswersLemmas.{ready_inside}
use Rattle.tower_util.specs.Maps.{MapView, Polled}

module _ {S F E U : Type 0} (polled : S → Poll (Result (Unit {0}) E) → S → Type 0) (turned : F → E → U → Type 0)
    (ready : S → Type 0) (readies : (old new : S) → polled old (Ready (Ok tt)) new → ready new) where
  pub polled_ready : (old new : MapView S F) → Polled polled turned old (Ready (Ok tt)) new → ready new.inner
  polled_ready old new h = readies old.inner new.inner (ready_inside (turned old.f) (λ inner. polled old.inner inner new.inner) h.0 h.1 h.3)
