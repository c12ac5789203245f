-- What a `Buffer` and its worker keep to, in the history of their mail.
use Rattle.std.specs.Prelude.{◌≡◌, ◌⊎◌, ℕ, true, Bool, false, nat_eq, if◌then◌else◌, unwrap_or, List, [], ◌∷◌, ◌++◌, take, slice_get, Option, Some, None}
use Rattle.futures.specs.declared.task.Poll.{Poll}
use Rattle.tower_latch.specs.History.{IsLegal}
use Rattle.tower_latch.specs.Latch.{Serves, StepsAs}
use Rattle.tower_base.specs.declared.service.Service.{Ghosts as ServiceOf}
use Rattle.tower_laws.specs.Responses.{PendingFor}
use Rattle.tower_buffer.specs.Mail.{Mail, MailSteps, initial}
use Rattle.tower_buffer.specs.Mailbox.{Opens, StandsFor}
use Rattle.tower_buffer.specs.Worker.{WorkerView, Stepped}
use Rattle.tower_buffer.specs.WorkerOrder.{WorkerSteps, book_of}
use Rattle.tower_buffer.specs.declared.buffer.message.Fate.{Fate}
use Rattle.tower_buffer.specs.declared.buffer.message.Fate.TheVariants.{Open, Answered, Failed as HasFailed, Lost as WasLost}
use Rattle.tower_buffer.specs.declared.buffer.mail.MailStep.{MailStep}
use Rattle.tower_buffer.specs.declared.buffer.mail.MailStep.TheVariants.{Reserve, Look, Send, Take, Answer, Fail, FailStored, Outcome, Forget, WorkerGone}
use Rattle.tower_buffer.specs.declared.buffer.mail.MailReply.{MailReply}
use Rattle.tower_buffer.specs.declared.buffer.mail.MailReply.TheVariants.{Done, Waiting, Memory, Failed, Sent, Message, Future, Lost}
use Rattle.tower_buffer.specs.declared.buffer.mailbox.Mailbox.{Mailbox}

-- the messages without that of this id
abbrev pub without : {Q : Type 0} → ℕ → List (ℕ × Q) → List (ℕ × Q)
without id [] = []
without id (message ∷ rest) = if nat_eq id message.0 then without id rest else message ∷ without id rest

-- what was given to a message, after a failure of the service: still nothing if nobody waits for it (`None`)
abbrev pub failed : {F : Type 0} → Option (Fate F) → Option (Fate F)
failed None = None
failed (Some fate) = Some HasFailed

-- what was given once the worker is gone: a message without an outcome is lost
abbrev pub lost : {F : Type 0} → Option (Fate F) → Option (Fate F)
lost (Some Open) = Some WasLost
lost given = given

module _ {Q F E : Type 0} where
  -- the messages that wait to be taken, after one more step: one that is sent is the last; one that is taken or cancelled leaves; once the worker is
  -- gone, none waits
  abbrev pub waits_after : List (ℕ × Q) → MailStep Q F E → MailReply Q F E → List (ℕ × Q)
  waits_after waiting (Send request) (Sent id) = waiting ++ (id, request) ∷ []
  waits_after waiting Take (Message id request) = without id waiting
  waits_after waiting (Forget id) Done = without id waiting
  waits_after waiting WorkerGone Done = []
  waits_after waiting step reply = waiting

  -- what was given to the message of this id, after one more step. Nothing yet when it is sent (`Some Open`); and `None` if nobody waits for such a
  -- message: it was forgotten, or its outcome was told.
  abbrev pub given_after : ℕ → Option (Fate F) → MailStep Q F E → MailReply Q F E → Option (Fate F)
  given_after id given (Send request) (Sent other) = if nat_eq id other then Some Open else given
  given_after id given (Answer other future) Done = if nat_eq id other then Some (Answered future) else given
  given_after id given (Fail other error) Done = if nat_eq id other then failed given else given
  given_after id given (FailStored other) Done = if nat_eq id other then failed given else given
  given_after id given (Forget other) Done = if nat_eq id other then None else given
  given_after id given (Outcome other) (Future future) = if nat_eq id other then None else given
  given_after id given (Outcome other) (Failed error) = if nat_eq id other then None else given
  given_after id given (Outcome other) Lost = if nat_eq id other then None else given
  given_after id given WorkerGone Done = lost given
  given_after id given step reply = given

  -- the error of the first failure, after one more step
  abbrev pub error_after : Option E → MailStep Q F E → MailReply Q F E → Option E
  error_after error (Fail id e) Done = Some (unwrap_or error e)
  error_after error step reply = error

  -- the same after all the steps, from what was before them
  abbrev pub waiting : List (ℕ × Q) → List (MailStep Q F E × MailReply Q F E) → List (ℕ × Q)
  waiting before [] = before
  waiting before (first ∷ rest) = waiting (waits_after before first.0 first.1) rest

  abbrev pub given : ℕ → Option (Fate F) → List (MailStep Q F E × MailReply Q F E) → Option (Fate F)
  given id before [] = before
  given id before (first ∷ rest) = given id (given_after id before first.0 first.1) rest

  abbrev pub first_error : Option E → List (MailStep Q F E × MailReply Q F E) → Option E
  first_error before [] = before
  first_error before (first ∷ rest) = first_error (error_after before first.0 first.1) rest

  -- `Take` hands out the message that waits first. If it hands out none, none waits.
  abbrev pub TakesFirst : List (MailStep Q F E × MailReply Q F E) → MailStep Q F E → MailReply Q F E → Type 0
  TakesFirst past Take (Message id request) = (rest : List (ℕ × Q)) × (waiting [] past ≡ (id, request) ∷ rest)
  TakesFirst past Take reply = waiting [] past ≡ []
  TakesFirst past step reply = Unit {0}

  -- An outcome is what was given to that message. (`Memory` if the clone of its error is refused.)
  abbrev pub TellsWhatWasGiven : List (MailStep Q F E × MailReply Q F E) → MailStep Q F E → MailReply Q F E → Type 0
  TellsWhatWasGiven past (Outcome id) (Waiting again) = given id None past ≡ Some Open
  TellsWhatWasGiven past (Outcome id) (Future future) = given id None past ≡ Some (Answered future)
  TellsWhatWasGiven past (Outcome id) (Failed error) = given id None past ≡ Some HasFailed
  TellsWhatWasGiven past (Outcome id) Memory = given id None past ≡ Some HasFailed
  TellsWhatWasGiven past (Outcome id) Lost = given id None past ≡ Some WasLost
  TellsWhatWasGiven past (Outcome id) reply = given id None past ≡ None
  TellsWhatWasGiven past step reply = Unit {0}

  -- The step asks for a place.
  abbrev pub asks_place : MailStep Q F E → Bool
  asks_place Reserve = true
  asks_place (Look key) = true
  asks_place step = false

  -- Whoever is told of a failure is told its error, the first one. Whoever asks for a place after a failure is told of it. (`Memory` as above.)
  abbrev pub TellsFirstError : List (MailStep Q F E × MailReply Q F E) → MailStep Q F E → MailReply Q F E → Type 0
  TellsFirstError past step reply = ((error : E) → reply ≡ Failed error → first_error None past ≡ Some error)
      × ((error : E) → asks_place step ≡ true → first_error None past ≡ Some error → (reply ≡ Failed error) ⊎ (reply ≡ Memory))

  -- P holds of each step with its reply, and of the steps before it: in each run from initial mail.
  abbrev pub InEachRun : (List (MailStep Q F E × MailReply Q F E) → MailStep Q F E → MailReply Q F E → Type 0) → Type 0
  InEachRun P = (bound : ℕ) (past : List (MailStep Q F E × MailReply Q F E)) (mail next : Mail Q F E) (step : MailStep Q F E) (reply : MailReply Q F E)
      → Serves MailSteps (initial bound) past mail → MailSteps mail step reply next → P past step reply

  -- The same in each history of mail that ran under a log.
  abbrev pub InEachHistory : (List (MailStep Q F E × MailReply Q F E) → MailStep Q F E → MailReply Q F E → Type 0) → Type 0
  InEachHistory P = (bound : ℕ) (box : Mailbox Q F E) (opening : Option (Mailbox Q F E)) (history : List (MailStep Q F E × MailReply Q F E)) → StandsFor box (initial bound)
      → opening ≡ Some box → IsLegal Opens (StepsAs StandsFor MailSteps) opening history → (place : ℕ) (step : MailStep Q F E) (reply : MailReply Q F E)
      → slice_get history place ≡ Some (step, reply) → P (take place history) step reply

  -- P holds in each run and in each history.
  abbrev pub HoldOfMail : (List (MailStep Q F E × MailReply Q F E) → MailStep Q F E → MailReply Q F E → Type 0) → Type 0
  HoldOfMail P = InEachRun P × InEachHistory P

-- Some steps in a worker's order lead from one worker to the other, at one latch. (`gave`: as in Worker.antt.)
abbrev pub InOrder : {L S Q E F : Type 0} → (L → MailStep Q F E → MailReply Q F E → Type 0) → WorkerView L S Q → WorkerView L S Q → Type 0
InOrder gave old new = (new.latch ≡ old.latch) × ((n : ℕ) × WorkerSteps gave old.latch n (book_of old) (book_of new))

-- Over all its polls a worker takes a message only once the last one has its outcome, or nobody waits for it. After a failure of its service each
-- message that it takes gets the stored error.
abbrev pub WorkerSettlesEach : {L S Q A E F : Type 0} → (L → MailStep Q F E → MailReply Q F E → Type 0) → ServiceOf S Q A E F → Type 0
WorkerSettlesEach {L} {S} {Q} gave s = (first last new : WorkerView L S Q) (polls : ℕ) (answer : Poll (Unit {0}))
    → PendingFor (Stepped gave s) polls first last → Stepped gave s last answer new → InOrder gave first new
