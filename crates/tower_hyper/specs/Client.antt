-- The machine of `Client`: each call sends its request once, after a poll of readiness that returned `Ok`.
use Rattle.std.specs.Prelude.{◌≡◌, Bool, true, false, IsTrue, IsFalse, Result, Ok, Err}
use Rattle.futures.specs.declared.task.Poll.{Poll}
use Rattle.futures.specs.declared.task.Poll.TheVariants.{Ready, Pending}
use Rattle.tower_hyper.specs.declared.client.sender.Sender.{Ghosts as SenderOf}

-- a `Client`
pub record ClientView (T : Type 0) : Type 0 where
  pub sender : T
  pub is_ready : Bool

-- A request may be sent after such an answer of readiness.
abbrev pub is_ok : {E : Type 0} → Poll (Result (Unit {0}) E) → Bool
is_ok (Ready (Ok x)) = true
is_ok (Ready (Err e)) = false
is_ok Pending = false

module _ {T Q A E F : Type 0} (t : SenderOf T Q A E F) where
  -- a poll of readiness: one poll of the connection's
  pub record Polled (old : ClientView T) (answer : Poll (Result (Unit {0}) E)) (new : ClientView T) : Type 0 where
    pub polled : t.polled old.sender answer new.sender
    pub is_ready : new.is_ready ≡ is_ok answer

  -- a call: the request is sent once. Another call needs another poll.
  pub record Called (old : ClientView T) (request : Q) (future : F) (new : ClientView T) : Type 0 where
    pub ready : IsTrue old.is_ready
    pub sent : t.sent old.sender request future new.sender
    pub spent : IsFalse new.is_ready
