-- The machine of `reconnect`.
use Rattle.std.specs.Prelude.{◌≡◌, ◌⊎◌, ℕ, Option, Some, None, Result, Ok, Err}
use Rattle.std.specs.declared.clone.Clone.{Ghosts as CloneOf}
use Rattle.futures.specs.declared.task.Poll.{Poll}
use Rattle.futures.specs.declared.task.Poll.TheVariants.{Ready, Pending}
use Rattle.tower_base.specs.Answers.{answered}
use Rattle.tower_base.specs.Gives.{MayGive}
use Rattle.tower_base.specs.Iterations.{Iterations}
use Rattle.tower_base.specs.declared.service.Service.{Ghosts as ServiceOf}
use Rattle.tower_base.specs.declared.service.Steps.{Ghosts as StepsOf}
use Rattle.tower_ware.specs.IterationsQuiet.{StirsOrTires}
use Rattle.tower_ware.specs.declared.reconnect.Reconnect.{Reconnect}
use Rattle.tower_ware.specs.declared.reconnect.error.Error.{Error}
use Rattle.tower_ware.specs.declared.reconnect.error.Error.TheVariants.{Inner, Make, Memory}
use Rattle.tower_ware.specs.declared.reconnect.state.State.{State}
use Rattle.tower_ware.specs.declared.reconnect.state.State.TheVariants.{Idle, Connecting, Connected}
use Rattle.tower_ware.specs.declared.reconnect.state.Reply.{Reply}
use Rattle.tower_ware.specs.declared.reconnect.state.Reply.TheVariants.{InFlight, Failed}

-- a `Reconnect`, with the error of the last connect that failed, unless a call has returned it
pub record ReconnectView (M F S E T : Type 0) : Type 0 where
  pub maker : M
  pub state : State F S
  pub target : T
  pub error : Option E

-- the view of a `Reconnect`
abbrev pub view_of : {M F S E T : Type 0} → Reconnect M T S E F → ReconnectView M F S E T
view_of r = record { maker = r.maker; state = r.state; target = r.target; error = r.error }

module _ {M F S : Type 0} (maker : M → ℕ → Type 0) (connect : F → ℕ → Type 0) (connection : S → ℕ → Type 0) where
  -- What a pending poll of readiness waits for, by the state: the maker, its connect or the connection.
  abbrev pub NeedsAt : State F S → M → ℕ → Type 0
  NeedsAt Idle m source = maker m source
  NeedsAt (Connecting f) m source = connect f source
  NeedsAt (Connected service) m source = connection service source

  abbrev pub Needs : {E T : Type 0} → ReconnectView M F S E T → ℕ → Type 0
  Needs v source = NeedsAt v.state v.maker source

module _ {M T S F ME : Type 0} (m : ServiceOf M T S ME F) (connect : StepsOf F (Result S ME)) (can_poll : F → Type 0) (sound : S → Type 0) where
  -- A connect may be polled and returns a sound service. A connection is sound.
  abbrev pub IsSound : State F S → Type 0
  IsSound Idle = Unit {0}
  IsSound (Connecting f) = can_poll f × ((service : S) → MayGive connect.stepped f (Ok service) → sound service)
  IsSound (Connected service) = sound service

  -- The invariant of a `Reconnect`: whatever service a connect of the maker returns is sound.
  pub record Sound (v : ReconnectView M F S ME T) : Type 0 where
    pub maker : m.sound v.maker
    pub state : IsSound v.state
    pub makes : (old new : M) (target : T) (f : F) (service : S) → m.sound old → m.called old target f new
        → MayGive connect.stepped f (Ok service) → sound service

module _ {M T S F ME Q A E G : Type 0} (m : ServiceOf M T S ME F) (connect : StepsOf F (Result S ME)) (s : ServiceOf S Q A E G)
    (clones : CloneOf T) where
  -- the result of one iteration: no answer yet, or the answer of the poll
  abbrev pub Answer : Type 0
  Answer = Option (Poll (Result (Unit {0}) (Error E ME)))

  -- What follows a poll of the maker's readiness. If it is ready, it is called with a clone of the target, unless cloning
  -- fails, which happens only if the target's clone may fail.
  abbrev pub AfterMaker : ReconnectView M F S ME T → M → Poll (Result (Unit {0}) ME) → Answer → ReconnectView M F S ME T → Type 0
  AfterMaker old polled Pending answer new = (answer ≡ Some Pending) × (new ≡ record old { maker = polled })
  AfterMaker old polled (Ready (Err e)) answer new = (answer ≡ Some (Ready (Err (Make e)))) × (new ≡ record old { maker = polled })
  AfterMaker old polled (Ready (Ok x)) answer new =
      ((answer ≡ Some (Ready (Err Memory))) × (new ≡ record old { maker = polled }) × ¬ (clones.is_infallible old.target))
      ⊎ ((target : T) × (left : M) × (f : F) × clones.is_clone old.target target × m.ready polled × m.called polled target f left
      × (answer ≡ None) × (new ≡ record old { maker = left; state = Connecting f }))

  -- What follows a poll of a connect. If it fails, its error is kept in place of an older one, and the poll returns `Ok`.
  abbrev pub AfterConnect : ReconnectView M F S ME T → F → Poll (Result S ME) → Answer → ReconnectView M F S ME T → Type 0
  AfterConnect old left Pending answer new = (answer ≡ Some Pending) × (new ≡ record old { state = Connecting left })
  AfterConnect old left (Ready (Ok service)) answer new = (answer ≡ None) × (new ≡ record old { state = Connected service })
  AfterConnect old left (Ready (Err e)) answer new = (answer ≡ Some (Ready (Ok tt))) × (new ≡ record old { state = Idle; error = Some e })

  -- What follows a poll of the connection's readiness. An error is dropped.
  abbrev pub AfterReadiness : ReconnectView M F S ME T → S → Poll (Result (Unit {0}) E) → Answer → ReconnectView M F S ME T → Type 0
  AfterReadiness old left Pending answer new = (answer ≡ Some Pending) × (new ≡ record old { state = Connected left })
  AfterReadiness old left (Ready (Ok x)) answer new = (answer ≡ Some (Ready (Ok tt))) × (new ≡ record old { state = Connected left })
  AfterReadiness old left (Ready (Err e)) answer new = (answer ≡ None) × (new ≡ record old { state = Idle })

  -- one iteration, from each state
  abbrev pub IterationAt : State F S → ReconnectView M F S ME T → Answer → ReconnectView M F S ME T → Type 0
  IterationAt Idle old answer new = (readiness : Poll (Result (Unit {0}) ME)) × (polled : M)
      × m.polled old.maker readiness polled × AfterMaker old polled readiness answer new
  IterationAt (Connecting f) old answer new = (connected : Poll (Result S ME)) × (left : F)
      × connect.stepped f connected left × AfterConnect old left connected answer new
  IterationAt (Connected service) old answer new = (readiness : Poll (Result (Unit {0}) E)) × (left : S)
      × s.polled service readiness left × AfterReadiness old left readiness answer new

  abbrev pub Iteration : ReconnectView M F S ME T → Answer → ReconnectView M F S ME T → Type 0
  Iteration old answer new = IterationAt old.state old answer new

  -- a poll of readiness: iterations up to an answer, or 64 without one, and then it is pending
  pub record Polled (old : ReconnectView M F S ME T) (answer : Poll (Result (Unit {0}) (Error E ME))) (new : ReconnectView M F S ME T) : Type 0 where
    pub iterations : Iterations Iteration Pending old answer new

  -- Why an iteration may ask for another poll: the causes of what it polls, the maker, its connect or the connection.
  abbrev pub StirsAt : State F S → M → Type 0
  StirsAt Idle maker = (left : M) × m.stirs maker left
  StirsAt (Connecting f) maker = (left : F) × connect.stirs f left
  StirsAt (Connected service) maker = (left : S) × s.stirs service left

  abbrev pub StirsOnce : ReconnectView M F S ME T → Type 0
  StirsOnce v = StirsAt v.state v.maker

  -- why a poll of readiness may ask for another: the causes of one of its iterations, or 64 iterations without an answer
  abbrev pub Stirs : ReconnectView M F S ME T → ReconnectView M F S ME T → Type 0
  Stirs = StirsOrTires Iteration StirsOnce

module _ {S F ME Q A E G : Type 0} (s : ServiceOf S Q A E G) where
  -- An error is kept, or the connection is ready.
  abbrev pub ReadyAt : State F S → Option ME → Type 0
  ReadyAt state (Some e) = Unit {0}
  ReadyAt (Connected service) None = s.ready service
  ReadyAt Idle None = ⊥
  ReadyAt (Connecting f) None = ⊥

  abbrev pub IsReady : {M T : Type 0} → ReconnectView M F S ME T → Type 0
  IsReady v = ReadyAt v.state v.error

module _ {M T S F ME Q A E G : Type 0} (s : ServiceOf S Q A E G) where
  -- a call: the kept error is returned and cleared; if there is none, the connection, which is ready, is called
  abbrev pub CalledAt : State F S → Option ME → ReconnectView M F S ME T → Q → Reply G ME → ReconnectView M F S ME T → Type 0
  CalledAt state (Some e) old request reply new = (reply ≡ Failed (Some e)) × (new ≡ record old { error = None })
  CalledAt (Connected service) None old request reply new = (f : G) × (left : S) × s.ready service × s.called service request f left
      × (reply ≡ InFlight f) × (new ≡ record old { state = Connected left })
  CalledAt Idle None old request reply new = ⊥
  CalledAt (Connecting f) None old request reply new = ⊥

  abbrev pub Called : ReconnectView M F S ME T → Q → Reply G ME → ReconnectView M F S ME T → Type 0
  Called old request reply new = CalledAt old.state old.error old request reply new

-- The future may be polled if its response may be, or if its error wasn't returned yet.
abbrev pub CanPoll : {G ME : Type 0} → (G → Type 0) → Reply G ME → Type 0
CanPoll can_poll (InFlight f) = can_poll f
CanPoll can_poll (Failed (Some e)) = Unit {0}
CanPoll can_poll (Failed None) = ⊥

module _ {G A E ME : Type 0} (f : StepsOf G (Result A E)) where
  -- a poll of the future: one poll of the response, or the error
  abbrev pub Stepped : Reply G ME → Poll (Result A (Error E ME)) → Reply G ME → Type 0
  Stepped (InFlight old) answer new = (inner : Poll (Result A E)) × (left : G) × f.stepped old inner left
      × (answer ≡ answered Inner inner) × (new ≡ InFlight left)
  Stepped (Failed (Some e)) answer new = (answer ≡ Ready (Err (Make e))) × (new ≡ Failed None)
  Stepped (Failed None) answer new = ⊥

-- the sources that the future waits for: those of its response
abbrev pub needs_of : {G ME : Type 0} → (G → ℕ → Type 0) → Reply G ME → ℕ → Type 0
needs_of needs (InFlight f) source = needs f source
needs_of needs (Failed e) source = ⊥

-- why a poll of the future may ask for another: the response's causes
abbrev pub stirs_of : {G ME : Type 0} → (G → G → Type 0) → Reply G ME → Reply G ME → Type 0
stirs_of stirs (InFlight old) (InFlight new) = stirs old new
stirs_of stirs (InFlight old) (Failed e) = ⊥
stirs_of stirs (Failed e) new = ⊥
