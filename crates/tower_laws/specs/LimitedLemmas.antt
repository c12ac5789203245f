-- Which services keep a `ConcurrencyLimit` inside them over its semaphore.
use Rattle.std.proofs.Common.{◌≡◌, ⊎_elim, ℕ, Bool, true, false, Option, Some, None, Result, Ok, Err, IfSome, IsSome, sym, ap, subst, ◌∙◌}
use Rattle.std.specs.Option.{option_and_then}
use Rattle.std.specs.declared.alloc.AllocError.{AllocError}
use Rattle.futures.specs.declared.task.Poll.{Poll}
use Rattle.futures.specs.declared.task.Poll.TheVariants.{Ready, Pending}
use Rattle.tower_base.specs.ServiceRun.{Relations, relations}
use Rattle.tower_base.specs.declared.service.Clock.{Ghosts as ClockOf}
use Rattle.tower_base.specs.declared.service.Service.{Ghosts as ServiceOf}
use Rattle.tower_base.specs.declared.service.Steps.{Ghosts as StepsOf}
use Rattle.tower_latch.specs.declared.Latch.{Ghosts as LatchOf}
use Rattle.tower_latch.specs.declared.guarded.token.Token.{Token}
use Rattle.tower_laws.specs.ConcurrencyLimit.{Holds}
use Rattle.tower_laws.specs.Limited.{HoldsInside, IsOver, KeepsLimit}
use Rattle.tower_limit.specs.Concurrency.{Acquired, Requested, Called, ConcurrencyLimitView, Acquires, AfterPermit, IsOf, PermitView, PollSemaphoreView, Polled, Replies, ResponseFutureView, SemaphoreView, Stepped}
use Rattle.tower_limit.specs.Rate as Rate
use Rattle.tower_limit.specs.declared.limit.concurrency.error.Error.{Error}
use Rattle.tower_limit.specs.declared.limit.concurrency.line_core.LineCore.{LineCore}
use Rattle.tower_limit.specs.declared.limit.concurrency.line_core.LineStep.{LineStep}
use Rattle.tower_limit.specs.declared.limit.concurrency.line_core.LineReply.{LineReply}
use Rattle.tower_limit.specs.declared.limit.concurrency.line_core.LineReply.TheVariants.{Granted, Waiting, Left, Count, Unknown, Memory}
use Rattle.tower_ware.specs.LoadShed as Shed
use Rattle.tower_ware.specs.Timeout as Time
use Rattle.tower_ware.specs.declared.load_shed.error.Error.{Error as ShedError}
use Rattle.tower_ware.specs.declared.timeout.error.Error.{Error as TimeoutError}

module _ {L : Type 0} (l : LatchOf L LineCore LineStep LineReply ℕ) (semaphore : SemaphoreView L) where
  -- The result of a request for a permit: a permit is of the semaphore.
  abbrev Got : Poll (Result (PermitView L) AllocError) → Type 0
  Got (Ready (Ok permit)) = IsOf l semaphore permit
  Got (Ready (Err e)) = Unit {0}
  Got Pending = Unit {0}

  -- Who waits asks at a share of the semaphore.
  abbrev Asks : PollSemaphoreView L → Type 0
  Asks asking = (token : Token) → l.its asking.semaphore.latch token → l.its semaphore.latch token

  replied : (old : PollSemaphoreView L) (share : L) (reply : LineReply) (got : Poll (Result (PermitView L) AllocError)) (key : Option ℕ)
      → Replies l old share reply got key → ((permit : PermitView L) → permit.latch ≡ share → IsOf l semaphore permit) → Got got
  replied old share Granted (Ready (Ok permit)) key h of = of permit h.0
  replied old share (Waiting place) (Ready (Ok permit)) key h of = absurd h
  replied old share Left (Ready (Ok permit)) key h of = absurd h
  replied old share (Count free) (Ready (Ok permit)) key h of = absurd h
  replied old share Unknown (Ready (Ok permit)) key h of = absurd h
  replied old share Memory (Ready (Ok permit)) key h of = absurd h
  replied old share reply (Ready (Err e)) key h of = tt
  replied old share reply Pending key h of = tt

  asked_for : (old : PollSemaphoreView L) (got : Poll (Result (PermitView L) AllocError)) (new : PollSemaphoreView L) → Asks old → Requested l old got new → Got got
  asked_for old got new asks asked = replied old asked.share asked.reply got new.key asked.replies (λ permit same token its.
      asks token (asked.shares.its token (subst (λ (x : L). l.its x token) same its)))

  asks_on : (old new : PollSemaphoreView L) → new.semaphore ≡ old.semaphore → Asks old → Asks new
  asks_on old new same asks token its = asks token (subst (λ (s : SemaphoreView L). l.its s.latch token) same its)

  ran_out : (old : PollSemaphoreView L) (got : Poll (Result (PermitView L) AllocError)) (new : PollSemaphoreView L) → Acquired l old got new → Asks old → Got got × Asks new
  ran_out old (Ready (Ok permit)) new a asks =
      ⊎_elim (λ refused. absurd refused.ran_out) (λ asked. (asked_for old (Ready (Ok permit)) new asks asked, asks_on old new asked.same asks)) a
  ran_out old (Ready (Err e)) new a asks =
      (tt, ⊎_elim (λ refused. asks_on old new (ap (λ (v : PollSemaphoreView L). v.semaphore) refused.same) asks) (λ asked. asks_on old new asked.same asks) a)
  ran_out old Pending new a asks =
      (tt, ⊎_elim (λ refused. asks_on old new (ap (λ (v : PollSemaphoreView L). v.semaphore) refused.same) asks) (λ asked. asks_on old new asked.same asks) a)

  gets : (permit : Option (PermitView L)) (old : PollSemaphoreView L) (got : Poll (Result (PermitView L) AllocError)) (new : PollSemaphoreView L) → Acquires l permit old got new
      → IfSome permit (IsOf l semaphore) → Asks old → Got got × Asks new
  gets (Some permit) old got new h of asks = (subst Got (sym h.0) of, asks_on old new (ap (λ (v : PollSemaphoreView L). v.semaphore) h.1) asks)
  gets None old got new h of asks = ran_out old got new h asks

  module _ {S Q A E F : Type 0} (s : ServiceOf S Q A E F) where
    goes : (got : Poll (Result (PermitView L) AllocError)) (old : ConcurrencyLimitView S L) (answer : Poll (Result (Unit {0}) (Error E))) (new : ConcurrencyLimitView S L)
        → AfterPermit l s got old answer new → Got got → IfSome new.permit (IsOf l semaphore)
    goes (Ready (Ok permit)) old answer new h of = subst (λ (o : Option (PermitView L)). IfSome o (IsOf l semaphore)) (sym h.0) of
    goes (Ready (Err e)) old answer new h of = subst (λ (o : Option (PermitView L)). IfSome o (IsOf l semaphore)) (sym h.0) tt
    goes Pending old answer new h of = subst (λ (o : Option (PermitView L)). IfSome o (IsOf l semaphore)) (sym h.0) tt

    -- A poll keeps the limit over the semaphore.
    pub polls : (old : ConcurrencyLimitView S L) (answer : Poll (Result (Unit {0}) (Error E))) (new : ConcurrencyLimitView S L) → Polled l s old answer new
        → IsOver l semaphore old → IsOver l semaphore new
    polls old answer new h over =
        let got = gets old.permit old.asking h.got new.asking h.gets over.permit over.asks in
        record { asks = got.1; permit = goes h.got old answer new h.goes got.0 }

    holds : (permit : Option (PermitView L)) (future : ResponseFutureView F L) → future.permit ≡ permit → IsSome permit → IfSome permit (IsOf l semaphore) → Holds l semaphore future
    holds (Some permit) future is some of = (permit, is, of)
    holds None future is some of = absurd (cc (some))

    -- The future of a call holds a permit of the semaphore.
    pub calls : (old : ConcurrencyLimitView S L) (request : Q) (future : ResponseFutureView F L) (new : ConcurrencyLimitView S L) → Called s old request future new
        → IsOver l semaphore old → Holds l semaphore future × IsOver l semaphore new
    calls old request future new h over = (
      holds old.permit future h.moved h.held over.permit,
      record {
        asks = asks_on old.asking new.asking (ap (λ (v : PollSemaphoreView L). v.semaphore) h.same) over.asks;
        permit = subst (λ (o : Option (PermitView L)). IfSome o (IsOf l semaphore)) (sym h.left) tt;
      },
    )

module _ {L : Type 0} (l : LatchOf L LineCore LineStep LineReply ℕ) {S Q A E F : Type 0} (s : ServiceOf S Q A E F) (f : StepsOf F (Result A E)) where
  abbrev limit_of : Relations (ConcurrencyLimitView S L) Q (Error E) (ResponseFutureView F L)
  limit_of = record { ready = λ v. IsSome v.permit × s.ready v.inner; polled = Polled l s; called = Called s }

  pub limit_keeps : KeepsLimit l limit_of (Stepped f) (IsOver l) Some
  limit_keeps = record {
    polls = λ semaphore old answer new polled over. polls l semaphore s old answer new polled over;
    calls = λ semaphore old request future new called over. calls l semaphore s old request future new called over;
    steps = λ semaphore old answer new stepped held. (held.0, stepped.same ∙ held.1, held.2);
  }

-- Over a service that keeps a limit, so do the layers around it.
module _ {L : Type 0} (l : LatchOf L LineCore LineStep LineReply ℕ) {S Q A E F G : Type 0} (s : ServiceOf S Q A E F) (f : StepsOf F (Result A E))
    (over : SemaphoreView L → S → Type 0) (inside : F → Option (ResponseFutureView G L)) (keeps : KeepsLimit l (relations s) f.stepped over inside) where
  module _ {C : Type 0} (c : ClockOf C) where
    abbrev timeout_of : Relations (Time.TimeoutView S C) Q (TimeoutError E) (Time.ResponseFutureView F C)
    timeout_of = record { ready = λ t. s.ready t.inner; polled = Time.Polled s c; called = Time.Called s c }

    pub timeout_keeps : KeepsLimit l timeout_of (Time.Stepped f c) (λ semaphore t. over semaphore t.inner) (λ future. inside future.response)
    timeout_keeps = record {
      polls = λ semaphore old answer new p here. keeps.polls semaphore old.inner p.inner new.inner p.polled here;
      calls = λ semaphore old request future new h here. keeps.calls semaphore old.inner request future.response new.inner h.called here;
      steps = λ semaphore old answer new step held. keeps.steps semaphore old.response step.inner new.response step.stepped held;
    }

    abbrev rate_of : Relations (Rate.RateLimitView S C) Q E F
    rate_of = record { ready = λ v. s.ready v.inner × Rate.Stands v.core (λ plain. Rate.may_call plain ≡ true); polled = Rate.Polled s c; called = Rate.Called s c }

    asked : (admitted : Bool) (semaphore : SemaphoreView L) (old : S) (answer : Poll (Result (Unit {0}) E)) (new : S) → Rate.Asks s c admitted old answer new
        → over semaphore old → over semaphore new
    asked true semaphore old answer new polled here = keeps.polls semaphore old answer new polled here
    asked false semaphore old answer new none here = subst (over semaphore) (sym none.1) here

    polled_at : (limited : Bool) (plain : Rate.Calls) (semaphore : SemaphoreView L) (old : Rate.RateLimitView S C) (answer : Poll (Result (Unit {0}) E)) (new : Rate.RateLimitView S C)
        → Rate.PollsAt s c limited plain old answer new → over semaphore old.inner → over semaphore new.inner
    polled_at true plain semaphore old answer new h here = asked (Rate.admits plain (c.reading new.clock)) semaphore old.inner answer new.inner h.2 here
    polled_at false plain semaphore old answer new h here = keeps.polls semaphore old.inner answer new.inner h.1 here

    pub rate_keeps : KeepsLimit l rate_of f.stepped (λ semaphore v. over semaphore v.inner) inside
    rate_keeps = record {
      polls = λ semaphore old answer new p here.
          polled_at (Rate.is_limited p.stands.0) p.stands.0 semaphore old answer new (p.polls p.stands.0 p.stands.1) here;
      calls = λ semaphore old request future new h here. keeps.calls semaphore old.inner request future new.inner h.called here;
      steps = λ semaphore old answer new step held. keeps.steps semaphore old answer new step held;
    }

  abbrev shed_of : Relations (Shed.LoadShedView S) Q (ShedError E) (Option F)
  shed_of = record { ready = Shed.IsReady s; polled = Shed.Polled s; called = Shed.Called s }

  shed_calls : (semaphore : SemaphoreView L) (old : Shed.LoadShedView S) (request : Q) (future : Option F) (new : Shed.LoadShedView S) → Shed.Called s old request future new
      → over semaphore old.inner → HoldsInside l semaphore (option_and_then inside future) × over semaphore new.inner
  shed_calls semaphore old request (Some future) new h here = keeps.calls semaphore old.inner request future new.inner h.2 here
  shed_calls semaphore old request None new h here = (tt, subst (λ (v : Shed.LoadShedView S). over semaphore v.inner) (sym h.1) here)

  shed_steps : (semaphore : SemaphoreView L) (old : Option F) (answer : Poll (Result A (ShedError E))) (new : Option F) → Shed.Stepped f old answer new
      → HoldsInside l semaphore (option_and_then inside old) → HoldsInside l semaphore (option_and_then inside new)
  shed_steps semaphore (Some old) answer (Some new) h held = keeps.steps semaphore old h.0 new h.1 held
  shed_steps semaphore (Some old) answer None h held = absurd h
  shed_steps semaphore None answer new h held = subst (λ (o : Option F). HoldsInside l semaphore (option_and_then inside o)) (sym h.1) tt

  pub shed_keeps : KeepsLimit l shed_of (Shed.Stepped f) (λ semaphore v. over semaphore v.inner) (option_and_then inside)
  shed_keeps = record {
    polls = λ semaphore old answer new p here. keeps.polls semaphore old.inner p.inner new.inner p.polled here;
    calls = shed_calls;
    steps = shed_steps;
  }
