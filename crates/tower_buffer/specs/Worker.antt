-- The machine of a buffer's `Worker`. Its steps at the mail: `Take` takes the oldest message; `Live` reports whether somebody still waits for a
-- message that was taken; and `Answer`, `Fail` and `FailStored` give a message its outcome. `gave latch
-- step reply` says that mail with the latch's bound had this reply to this step in some run.
use Rattle.std.specs.Prelude.{◌≡◌, ◌⊎◌, ℕ, Bool, true, false, Option, None, Some, Result, Ok, Err}
use Rattle.futures.specs.declared.task.Poll.{Poll}
use Rattle.futures.specs.declared.task.Poll.TheVariants.{Ready, Pending}
use Rattle.tower_base.specs.Iterations.{Iterates, Iterations, limit}
use Rattle.tower_base.specs.Quiet.{Ever}
use Rattle.tower_base.specs.declared.service.Service.{Ghosts as ServiceOf}
use Rattle.tower_buffer.specs.declared.buffer.mail.MailStep.{MailStep}
use Rattle.tower_buffer.specs.declared.buffer.mail.MailStep.TheVariants.{Take, Live, Answer, Fail, FailStored}
use Rattle.tower_buffer.specs.declared.buffer.mail.MailReply.{MailReply}
use Rattle.tower_buffer.specs.declared.buffer.mail.MailReply.TheVariants.{Message, Cleared, Empty, End, Truth, Unknown}

-- a `Worker`: its share of the mail, its service, the message that it keeps while the service is pending, and whether the service has failed
pub record WorkerView (L S Q : Type 0) : Type 0 where
  pub latch : L
  pub service : S
  pub message : Option (ℕ × Q)
  pub has_failed : Bool

-- What a pending worker waits for: a message, at the sources of its latch, or the service if a message is kept.
abbrev pub NeedsAt : {M : Type 0} → Option M → Type 0 → Type 0 → Type 0
NeedsAt None latch service = latch
NeedsAt (Some message) latch service = service

abbrev pub Needs : {L S Q : Type 0} → (L → ℕ → Type 0) → (S → ℕ → Type 0) → WorkerView L S Q → ℕ → Type 0
Needs source needs w s = NeedsAt w.message (source w.latch s) (needs w.service s)

module _ {L S Q A E F : Type 0} (gave : L → MailStep Q F E → MailReply Q F E → Type 0) (s : ServiceOf S Q A E F) where
  -- The service, which is ready, is called, and the call's future goes to the mail as the outcome of the message, whatever the mail replies: if
  -- nobody waits any more, `Back`.
  abbrev pub HandsOn : WorkerView L S Q → ℕ → Q → WorkerView L S Q → Type 0
  HandsOn old id request new = s.ready old.service × ((future : F) × (left : S) × s.called old.service request future left
      × ((reply : MailReply Q F E) × gave old.latch (Answer id future) reply) × (new ≡ record old { service = left }))

  -- What follows a poll of the service for this message. If it is pending, the message is kept. If it failed, its error goes to the mail as
  -- the outcome of the message.
  abbrev pub AfterPoll : WorkerView L S Q → ℕ → Q → Poll (Result (Unit {0}) E) → Option (Poll (Unit {0})) → WorkerView L S Q → Type 0
  AfterPoll old id request Pending answer new = (answer ≡ Some Pending) × (new ≡ record old { message = Some (id, request) })
  AfterPoll old id request (Ready (Err e)) answer new = (answer ≡ None) × ((reply : MailReply Q F E) × gave old.latch (Fail id e) reply)
      × (new ≡ record old { message = None; has_failed = true })
  AfterPoll old id request (Ready (Ok ready)) answer new = (answer ≡ None) × HandsOn old id request new

  -- The service is polled for this message.
  abbrev pub Serves : WorkerView L S Q → ℕ → Q → Option (Poll (Unit {0})) → WorkerView L S Q → Type 0
  Serves old id request answer new = (inner : Poll (Result (Unit {0}) E)) × (left : S) × s.polled old.service inner left
      × AfterPoll (record old { service = left }) id request inner answer new

  -- What follows a message that was taken. Once the service has failed, it gets the stored error; before, the service is polled for it.
  abbrev pub AfterMessage : Bool → WorkerView L S Q → ℕ → Q → Option (Poll (Unit {0})) → WorkerView L S Q → Type 0
  AfterMessage true old id request answer new = (answer ≡ None) × ((reply : MailReply Q F E) × gave old.latch (FailStored id) reply) × (new ≡ old)
  AfterMessage false old id request answer new = Serves old id request answer new

  -- What follows the reply to `Take`. `Cleared` says that nobody waited for the messages that were queued, and that they were removed: the worker
  -- goes on. At `Empty` the poll is pending. `End` alone ends the worker.
  abbrev pub AfterTake : WorkerView L S Q → MailReply Q F E → Option (Poll (Unit {0})) → WorkerView L S Q → Type 0
  AfterTake old (Message id request) answer new = AfterMessage old.has_failed old id request answer new
  AfterTake old Cleared answer new = (answer ≡ None) × (new ≡ old)
  AfterTake old Empty answer new = (answer ≡ Some Pending) × (new ≡ old)
  AfterTake old End answer new = (answer ≡ Some (Ready tt)) × (new ≡ old)
  AfterTake old _ answer new = ⊥

  -- What follows the reply to `Live`, for the message that was kept. If nobody waits for it, or the mail doesn't know it any more, it is dropped.
  abbrev pub AfterLive : WorkerView L S Q → ℕ → Q → MailReply Q F E → Option (Poll (Unit {0})) → WorkerView L S Q → Type 0
  AfterLive old id request (Truth true) answer new = Serves old id request answer new
  AfterLive old id request (Truth false) answer new = (answer ≡ None) × (new ≡ old)
  AfterLive old id request Unknown answer new = (answer ≡ None) × (new ≡ old)
  AfterLive old id request _ answer new = ⊥

  -- one iteration, by whether a message is kept
  abbrev pub IterationAt : Option (ℕ × Q) → WorkerView L S Q → Option (Poll (Unit {0})) → WorkerView L S Q → Type 0
  IterationAt None old answer new = (reply : MailReply Q F E) × gave old.latch Take reply × AfterTake old reply answer new
  IterationAt (Some message) old answer new = (reply : MailReply Q F E) × gave old.latch (Live message.0) reply
      × AfterLive (record old { message = None }) message.0 message.1 reply answer new

  -- one iteration: the kept message is served if somebody still waits for it; if none is kept, the next one is taken
  abbrev pub Iteration : WorkerView L S Q → Option (Poll (Unit {0})) → WorkerView L S Q → Type 0
  Iteration old answer new = IterationAt old.message old answer new

  -- a poll of the worker: iterations until one returns a result, or 64 without one, and then it is pending
  abbrev pub Stepped : WorkerView L S Q → Poll (Unit {0}) → WorkerView L S Q → Type 0
  Stepped old answer new = Iterations Iteration Pending old answer new

  -- Why a poll of the worker may ask for another: the latch's causes, those of some poll of the service, and 64 iterations in a row without an answer.
  abbrev pub Stirs : (L → Type 0) → (S → S → Type 0) → WorkerView L S Q → WorkerView L S Q → Type 0
  Stirs latch service old new = latch old.latch ⊎ Ever service ⊎ Iterates Iteration limit old new
