-- The order of a worker's steps at its mail, over all its polls: it settles each message before it takes the next one. (`gave`: as in Worker.antt.)
use Rattle.std.specs.Prelude.{◌≡◌, ◌⊎◌, ℕ, zero, suc, Bool, true, false, Option, None, Some}
use Rattle.futures.specs.declared.task.Poll.{Poll}
use Rattle.futures.specs.declared.task.Poll.TheVariants.{Pending}
use Rattle.tower_base.specs.Iterations.{Iterations}
use Rattle.tower_buffer.specs.Worker.{WorkerView}
use Rattle.tower_buffer.specs.declared.buffer.mail.MailStep.{MailStep}
use Rattle.tower_buffer.specs.declared.buffer.mail.MailStep.TheVariants.{Take, Live, Answer, Fail, FailStored}
use Rattle.tower_buffer.specs.declared.buffer.mail.MailReply.{MailReply}
use Rattle.tower_buffer.specs.declared.buffer.mail.MailReply.TheVariants.{Message, Truth}

-- What a worker owes: nothing; an outcome to the message of this id, which it took; or the stored error to that message.
pub data Debt : Type 0 where
  nothing : Debt
  outcome : ℕ → Debt
  stored : ℕ → Debt

-- whether the service has failed, and what is owed
pub record Book : Type 0 where
  pub failed : Bool
  pub debt : Debt

-- After a failure the stored error is owed.
abbrev pub owed : Bool → ℕ → Debt
owed true id = stored id
owed false id = outcome id

module _ {Q F E : Type 0} where
  -- one step, by what is owed
  abbrev pub AdvancesAt : Debt → Bool → MailStep Q F E → MailReply Q F E → Book → Type 0
  AdvancesAt nothing failed Take (Message id request) new = new ≡ record { failed = failed; debt = owed failed id }
  AdvancesAt nothing failed Take reply new = new ≡ record { failed = failed; debt = nothing }
  AdvancesAt (outcome id) failed (Live other) (Truth true) new = (other ≡ id) × (new ≡ record { failed = failed; debt = outcome id })
  AdvancesAt (outcome id) failed (Live other) reply new = (other ≡ id) × (new ≡ record { failed = failed; debt = nothing })
  AdvancesAt (outcome id) failed (Answer other future) reply new = (other ≡ id) × (new ≡ record { failed = failed; debt = nothing })
  AdvancesAt (outcome id) failed (Fail other e) reply new = (other ≡ id) × (new ≡ record { failed = true; debt = nothing })
  AdvancesAt (stored id) failed (FailStored other) reply new = (other ≡ id) × (new ≡ record { failed = failed; debt = nothing })
  AdvancesAt debt failed step reply new = ⊥

  -- One step of a worker at its mail. It takes a message only if it owes nothing. Then it owes that message an outcome, which `Answer` or `Fail`
  -- gives, or after a failure the stored error, which `FailStored` gives. Nothing else ends a debt but a `Live` that
  -- doesn't report that somebody waits.
  abbrev pub Advances : Book → MailStep Q F E → MailReply Q F E → Book → Type 0
  Advances old step reply new = AdvancesAt old.debt old.failed step reply new

module _ {L Q E F : Type 0} (gave : L → MailStep Q F E → MailReply Q F E → Type 0) where
  -- this many steps, one after another
  abbrev pub WorkerSteps : L → ℕ → Book → Book → Type 0
  WorkerSteps latch zero old new = new ≡ old
  WorkerSteps latch (suc n) old new = (mid : Book) × WorkerSteps latch n old mid × ((step : MailStep Q F E) × (reply : MailReply Q F E) × gave latch step reply × Advances mid step reply new)

-- A message that a worker keeps is owed its outcome.
abbrev pub debt_of : {Q : Type 0} → Option (ℕ × Q) → Debt
debt_of None = nothing
debt_of (Some message) = outcome message.0

abbrev pub book_of : {L S Q : Type 0} → WorkerView L S Q → Book
book_of worker = record { failed = worker.has_failed; debt = debt_of worker.message }

module _ {L S Q E F : Type 0} (gave : L → MailStep Q F E → MailReply Q F E → Type 0) where
  -- One iteration of a worker is one step at its mail, or two, in that order.
  pub record OrderlyIteration (old : WorkerView L S Q) (answer : Option (Poll (Unit {0}))) (new : WorkerView L S Q) : Type 0 where
    pub same : new.latch ≡ old.latch
    pub steps : ℕ
    pub some : (steps ≡ 1) ⊎ (steps ≡ 2)
    pub works : WorkerSteps gave old.latch steps (book_of old) (book_of new)

  -- A poll of a worker consists of such iterations: as many as come to its answer, or 64.
  abbrev pub Orderly : WorkerView L S Q → Poll (Unit {0}) → WorkerView L S Q → Type 0
  Orderly old answer new = Iterations OrderlyIteration Pending old answer new
