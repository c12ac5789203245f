-- A `LoadShed` may be called after each poll.
use Rattle.std.proofs.Common.{◌≡◌, true, Ok, Err, Result}
use Rattle.futures.specs.declared.task.Poll.{Poll}
use Rattle.futures.specs.declared.task.Poll.TheVariants.{Ready, Pending}
use Rattle.tower_base.specs.declared.service.Service.{Ghosts as ServiceOf}
use Rattle.tower_ware.specs.LoadShed.{IsReady, LoadShedView, Polled, flag_of}
use Rattle.tower_ware.specs.declared.load_shed.error.Error.{Error}

module _ {S Q A E F : Type 0} (s : ServiceOf S Q A E F)
    (readies : (before after : S) → s.polled before (Ready (Ok tt)) after → s.ready after) where
  flagged : (old new : S) (inner : Poll (Result (Unit {0}) E)) → s.polled old inner new → flag_of inner ≡ true → s.ready new
  flagged old new (Ready (Ok x)) polled set = readies old new polled
  flagged old new (Ready (Err e)) polled set = absurd (cc set)
  flagged old new Pending polled set = absurd (cc set)

-- after each poll, whatever it returned
pub ready_after : {S Q A E F : Type 0} {s : ServiceOf S Q A E F}
    → ((before after : S) → s.polled before (Ready (Ok tt)) after → s.ready after) → (old : LoadShedView S)
    → (answer : Poll (Result (Unit {0}) (Error E))) (new : LoadShedView S) → Polled s old answer new → IsReady s new
ready_after {s = s} readies old answer new p set = flagged s readies old.inner new.inner p.inner p.polled (rw p.flag at set)
