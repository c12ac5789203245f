-- After a poll that returns `Ok` a call may be made.
use Rattle.std.proofs.Common.{◌≡◌, ◌||◌, Bool, true, false, Ok, not, refl, ap}
use Rattle.futures.specs.declared.task.Poll.TheVariants.{Ready}
use Rattle.tower_base.specs.declared.service.Service.{Ghosts as ServiceOf}
use Rattle.tower_base.specs.declared.service.Clock.{Ghosts as ClockOf}
use Rattle.tower_limit.specs.Rate.{Calls, RateLimitView, StandsFor, Stands, Polled, PollsAt, Asks, is_limited, admits, may_call}

-- A poll that admits a call allows it.
pub open-allows : (limited : Bool) → not limited || true ≡ true
open-allows true = refl
open-allows false = refl

-- Fewer calls than `num` allow one too.
pub free-allows : (limited admitted : Bool) → limited ≡ false → not limited || admitted ≡ true
free-allows true admitted h = absurd (cc h)
free-allows false admitted h = refl

module _ {S C Q A E F : Type 0} (s : ServiceOf S Q A E F) (c : ClockOf C)
    (readies : (before after : S) → s.polled before (Ready (Ok tt)) after → s.ready after) (old new : RateLimitView S C) where
  abbrev IsReady : Type 0
  IsReady = s.ready new.inner × Stands new.core (λ plain. may_call plain ≡ true)

  asked : (admission : Bool) (plain : Calls) → StandsFor new.core (record plain { admitted = admission })
      → Asks s c admission old.inner (Ready (Ok tt)) new.inner → IsReady
  asked true plain stands polled =
      (readies old.inner new.inner polled, (record plain { admitted = true }, stands, open-allows (is_limited plain)))
  asked false plain stands none = absurd (cc none.0)

  polled_at : (limited : Bool) (plain : Calls) → is_limited plain ≡ limited → StandsFor old.core plain
      → PollsAt s c limited plain old (Ready (Ok tt)) new → IsReady
  polled_at false plain free stands h =
      (readies old.inner new.inner h.1, (plain, rw (ap (λ l. l.core) h.0) stands, free-allows (is_limited plain) plain.admitted free))
  polled_at true plain full stands h = asked (admits plain (c.reading new.clock)) plain h.1 h.2

pub ready_after : {S C Q A E F : Type 0} {s : ServiceOf S Q A E F} {c : ClockOf C}
    → ((before after : S) → s.polled before (Ready (Ok tt)) after → s.ready after) → (old new : RateLimitView S C)
    → Polled s c old (Ready (Ok tt)) new → s.ready new.inner × Stands new.core (λ plain. may_call plain ≡ true)
ready_after {s = s} {c = c} readies old new p =
    polled_at s c readies old new (is_limited p.stands.0) p.stands.0 refl p.stands.1 (p.polls p.stands.0 p.stands.1)
