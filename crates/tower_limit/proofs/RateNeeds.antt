-- Which sources a pending poll of a rate limit waits for, and why a poll may ask for another.
use Rattle.std.proofs.Common.{◌≡◌, ◌&&◌, ℕ, Bool, true, false, not, length, nat_eq, inl, inr}
use Rattle.futures.specs.declared.task.context.Context.{Context}
use Rattle.tower_limit.specs.Rate.{RateLimitView, Needs, NeedsAt, Stirs, is_shut}
use Rattle.tower_base.specs.Quiet.{Quiet}

needs_inner : (full admitted : Bool) (inner clock : Type 0) → full && not admitted ≡ false → NeedsAt (full && not admitted) inner clock → inner
needs_inner false admitted inner clock e n = n
needs_inner true true inner clock e n = n
needs_inner true false inner clock e n = absurd (cc e)

needs_clock : (full admitted : Bool) (inner clock : Type 0) → full && not admitted ≡ true → NeedsAt (full && not admitted) inner clock → clock
needs_clock false admitted inner clock e n = absurd (cc e)
needs_clock true true inner clock e n = absurd (cc e)
needs_clock true false inner clock e n = n

module _ {S C : Type 0} (needs : S → ℕ → Type 0) (hears : C → ℕ → Type 0) (l : RateLimitView S C) (heard : ℕ → Type 0) where
  -- The inner service is what is waited for.
  pub heard_inner : is_shut l.core ≡ false → ((s : ℕ) → needs l.inner s → heard s) → (s : ℕ) → Needs needs hears l s → heard s
  heard_inner free inner s n = inner s (needs_inner (nat_eq (length l.core.kept) l.core.num) l.core.admitted _ _ free n)

  -- The limit is.
  pub heard_clock : is_shut l.core ≡ true → ((s : ℕ) → hears l.clock s → heard s) → (s : ℕ) → Needs needs hears l s → heard s
  heard_clock shut clock s n = clock s (needs_clock (nat_eq (length l.core.kept) l.core.num) l.core.admitted _ _ shut n)

at_inner : (full admitted : Bool) (inner clock : Type 0) → full && not admitted ≡ false → inner → NeedsAt (full && not admitted) inner clock
at_inner false admitted inner clock e n = n
at_inner true true inner clock e n = n
at_inner true false inner clock e n = absurd (cc e)

at_clock : (full admitted : Bool) (inner clock : Type 0) → full && not admitted ≡ true → clock → NeedsAt (full && not admitted) inner clock
at_clock false admitted inner clock e n = absurd (cc e)
at_clock true true inner clock e n = absurd (cc e)
at_clock true false inner clock e n = n

module _ {S C : Type 0} (inner : S → S → Type 0) (clock : C → Type 0) (old new : RateLimitView S C) (before after : Context) where
  -- The inner service was polled.
  pub quiet_inner : is_shut new.core ≡ false → Quiet (inner old.inner new.inner) before after → Quiet (Stirs inner clock old new) before after
  quiet_inner free quiet woken = elim (quiet woken) [
    | inl was ↦ inl was
    | inr stirs ↦ inr (at_inner (nat_eq (length new.core.kept) new.core.num) new.core.admitted _ _ free stirs)
  ]

  -- The limit is waited for.
  pub quiet_clock : is_shut new.core ≡ true → Quiet (clock new.clock) before after → Quiet (Stirs inner clock old new) before after
  quiet_clock shut quiet woken = elim (quiet woken) [
    | inl was ↦ inl was
    | inr stirs ↦ inr (at_clock (nat_eq (length new.core.kept) new.core.num) new.core.admitted _ _ shut stirs)
  ]
