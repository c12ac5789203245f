-- The machine of `limit::rate`.
use Rattle.std.specs.Prelude.{◌≡◌, ◌+◌, ◌-◌, ◌<◌, ◌||◌, ◌&&◌, ◌⊎◌, ℕ, Bool, true, false, not, List, [], ◌∷◌, length, take, slice_index, nat_eq, nat_le, if◌then◌else◌, Result}
use Rattle.futures.specs.declared.task.context.Context.{Context}
use Rattle.futures.specs.declared.task.Poll.{Poll}
use Rattle.futures.specs.declared.task.Poll.TheVariants.{Pending}
use Rattle.tower_base.specs.declared.service.Service.{Ghosts as ServiceOf}
use Rattle.tower_base.specs.declared.service.Clock.{Ghosts as ClockOf}

-- `num` calls fit into an interval of length `per`. The moments of all calls are listed, the newest first. `admitted` says
-- whether the last poll admits a call and no call came since.
pub record Calls : Type 0 where
  pub num : ℕ
  pub per : ℕ
  pub moments : List ℕ
  pub admitted : Bool

-- a `RateCore`: the rate, the moments that it keeps, and whether a call is admitted. It is owned, not shared behind a latch.
pub record RateCoreView : Type 0 where
  pub num : ℕ
  pub per : ℕ
  pub kept : List ℕ
  pub admitted : Bool

-- a `RateLimit`
pub record RateLimitView (S C : Type 0) : Type 0 where
  pub inner : S
  pub core : RateCoreView
  pub clock : C

-- a `RateLimitLayer`
pub record RateLimitLayerView (C : Type 0) : Type 0 where
  pub num : ℕ
  pub per : ℕ
  pub clock : C

-- the list before any call
abbrev pub initial : ℕ → ℕ → Calls
initial num per = record { num = num; per = per; moments = []; admitted = false }

-- whether `num` or more calls were made
abbrev pub is_limited : Calls → Bool
is_limited plain = nat_le plain.num (length plain.moments)

-- The moment of the `num`-th last call, if that many were made. (`slice_index xs i` is the element of `xs` at the index `i`.)
abbrev pub oldest : Calls → ℕ
oldest plain = slice_index plain.moments (plain.num - 1)

-- whether a poll at this moment admits a call: it does unless the `num`-th last call plus the period is later
abbrev pub admits : Calls → ℕ → Bool
admits plain moment = if is_limited plain then nat_le (oldest plain + plain.per) moment else true

-- A poll admits a call from this moment on, and not before.
abbrev pub AdmitsFrom : Calls → ℕ → Type 0
AdmitsFrom plain opens = (moment : ℕ) → admits plain moment ≡ nat_le opens moment

-- whether a call may be made
abbrev pub may_call : Calls → Bool
may_call plain = not (is_limited plain) || plain.admitted

-- the calls after a poll at this moment, which admits a call or doesn't
abbrev pub after_poll : Calls → ℕ → Calls
after_poll plain moment = record plain { admitted = admits plain moment }

-- The calls after a call at this moment: it joins the list, and no poll has admitted the next one.
abbrev pub after_call : Calls → ℕ → Calls
after_call plain moment = record plain { moments = moment ∷ plain.moments; admitted = false }

-- A core stands for a list of calls of which it keeps the last `num`. (`takes`: the rate allows at least one call.)
pub record StandsFor (core : RateCoreView) (plain : Calls) : Type 0 where
  pub takes : 0 < plain.num
  pub number : plain.num ≡ core.num
  pub period : plain.per ≡ core.per
  pub last : core.kept ≡ take plain.num plain.moments
  pub admission : plain.admitted ≡ core.admitted

-- The core stands for calls of which P holds.
abbrev pub Stands : RateCoreView → (Calls → Type 0) → Type 0
Stands core P = (plain : Calls) × StandsFor core plain × P plain

-- whether the limit, and not the inner service, is what a pending poll waits for
abbrev pub is_shut : RateCoreView → Bool
is_shut core = nat_eq (length core.kept) core.num && not core.admitted

-- What a pending poll of readiness waits for: the limit, at the sources of the clock, or the inner service.
abbrev pub NeedsAt : Bool → Type 0 → Type 0 → Type 0
NeedsAt true inner clock = clock
NeedsAt false inner clock = inner

-- A pending poll of `l` waits for the source `s`.
abbrev pub Needs : {S C : Type 0} → (S → ℕ → Type 0) → (C → ℕ → Type 0) → RateLimitView S C → ℕ → Type 0
Needs needs hears l s = NeedsAt (is_shut l.core) (needs l.inner s) (hears l.clock s)

-- Why a poll of readiness may ask for another: the clock's causes if the limit is waited for, or else the inner service's.
abbrev pub Stirs : {S C : Type 0} → (S → S → Type 0) → (C → Type 0) → RateLimitView S C → RateLimitView S C → Type 0
Stirs inner clock old new = NeedsAt (is_shut new.core) (inner old.inner new.inner) (clock new.clock)

module _ {S C Q A E F : Type 0} (s : ServiceOf S Q A E F) (c : ClockOf C) where
  -- The inner service is polled once, or the result is pending without a poll.
  abbrev pub Asks : Bool → S → Poll (Result (Unit {0}) E) → S → Type 0
  Asks true old answer new = s.polled old answer new
  Asks false old answer new = (answer ≡ Pending) × (new ≡ old)

  -- A poll of readiness after these calls. If they limit it, the clock is read once. Otherwise it isn't read.
  abbrev pub PollsAt : Bool → Calls → RateLimitView S C → Poll (Result (Unit {0}) E) → RateLimitView S C → Type 0
  PollsAt true plain old answer new = c.read old.clock new.clock
      × StandsFor new.core (after_poll plain (c.reading new.clock))
      × Asks (admits plain (c.reading new.clock)) old.inner answer new.inner
  PollsAt false plain old answer new = (new ≡ record old { inner = new.inner }) × s.polled old.inner answer new.inner

  -- a poll of readiness, over all calls that the core stands for
  pub record Polled (old : RateLimitView S C) (answer : Poll (Result (Unit {0}) E)) (new : RateLimitView S C) : Type 0 where
    pub stands : Stands old.core (λ plain. Unit {0})
    pub polls : (plain : Calls) → StandsFor old.core plain → PollsAt (is_limited plain) plain old answer new

  -- a call: one reading of the clock, and one call of the inner service, which is ready
  pub record Called (old : RateLimitView S C) (request : Q) (future : F) (new : RateLimitView S C) : Type 0 where
    pub may : Stands old.core (λ plain. may_call plain ≡ true)
    pub ready : s.ready old.inner
    pub read : c.read old.clock new.clock
    pub joins : (plain : Calls) → StandsFor old.core plain → StandsFor new.core (after_call plain (c.reading new.clock))
    pub called : s.called old.inner request future new.inner

-- If the calls so far admit none at the moment of this poll, its task asked to be polled again, or is polled again by the moment from
-- which on a poll admits one.
abbrev pub WokenInTime : {S C : Type 0} → ClockOf C → RateLimitView S C → RateLimitView S C → Context → Type 0
WokenInTime c old new cx = (plain : Calls) → StandsFor old.core plain → admits plain (c.reading new.clock) ≡ false
    → (opens : ℕ) × AdmitsFrom plain opens × ((cx.is_woken ≡ true) ⊎ c.wakes_by new.clock opens cx)

-- a new rate limit of a service with this clock, which isn't read
pub record New {S C : Type 0} (num per : ℕ) (service : S) (clock : C) (made : RateLimitView S C) : Type 0 where
  pub inside : made.inner ≡ service
  pub unread : made.clock ≡ clock
  pub core : StandsFor made.core (initial num per)

-- what the layer creates: a rate limit with a share of its clock
abbrev pub Made : {S C : Type 0} → ClockOf C → RateLimitLayerView C → S → RateLimitView S C → Type 0
Made {C = C} c layer service made = (share : C) × c.shared layer.clock share × New layer.num layer.per service share made
