-- How the number of holders of permits changes with a line.
use Rattle.std.proofs.Common.{◌≡◌, ◌≤◌, ◌<◌, ◌+◌, ◌-◌, ℕ, zero, suc, List, [], ◌∷◌, ◌++◌, Some, None, refl, sym, ap, ◌∙◌, arith, slice_set}
use Rattle.std.specs.Prelude.{slice_get, remove}
use Rattle.std.proofs.lemmas.Option.{same_Some, none-some}
use Rattle.tower_latch.specs.Latch.{StepsAs}
use Rattle.tower_limit.specs.Line.{Ticket, Line, Steps, LineSteps, At}
use Rattle.tower_limit.specs.LineCore.{holders, HoldersBelow, StandsFor, Opens}
use Rattle.tower_limit.specs.declared.limit.concurrency.line_core.LineCore.{LineCore}
use Rattle.tower_limit.specs.declared.limit.concurrency.line_core.LineStep.{LineStep}
use Rattle.tower_limit.specs.declared.limit.concurrency.line_core.LineStep.TheVariants.{Join, Look, Cancel, Release, Free}
use Rattle.tower_limit.specs.declared.limit.concurrency.line_core.LineReply.{LineReply}
use Rattle.tower_limit.specs.declared.limit.concurrency.line_core.LineReply.TheVariants.{Granted, Waiting, Left, Count, Unknown, Memory}
use Rattle.tower_limit.specs.LineTokens.{paid, gained}

joins_held : (line : List Ticket) → holders (line ++ Ticket.held ∷ []) ≡ suc (holders line)
joins_held [] = refl
joins_held (Ticket.held ∷ line) = ap suc (joins_held line)
joins_held (Ticket.waits key ∷ line) = joins_held line

joins_waiting : (line : List Ticket) (key : ℕ) → holders (line ++ Ticket.waits key ∷ []) ≡ holders line
joins_waiting [] key = refl
joins_waiting (Ticket.held ∷ line) key = ap suc (joins_waiting line key)
joins_waiting (Ticket.waits other ∷ line) key = joins_waiting line key

within : (max : ℕ) (line : List Ticket) → HoldersBelow max line → holders line ≤ max
within max [] below = omega arith
within max (Ticket.held ∷ line) below = lemma _ (within (max - 1) line below.1) below.0
  where
    lemma : (h : ℕ) → h ≤ max - 1 → 0 < max → suc h ≤ max
    lemma h a b = omega (arith, a, b)
within max (Ticket.waits key ∷ line) below = lemma _ (within (max - 1) line below)
  where
    lemma : (h : ℕ) → h ≤ max - 1 → h ≤ max
    lemma h a = omega (arith, a)

none_at : (place : ℕ) → slice_get {X = Ticket} [] place ≡ None
none_at zero = refl
none_at (suc n) = refl

none_there : (place : ℕ) (ticket : Ticket) → slice_get [] place ≡ Some ticket → ⊥
none_there place ticket e = none-some ticket (sym (none_at place) ∙ e)

sets_held : (line : List Ticket) (place key : ℕ) → At line place (Ticket.waits key) → holders (slice_set line place Ticket.held) ≡ suc (holders line)
sets_held [] place key at = absurd (none_there place (Ticket.waits key) at)
sets_held (ticket ∷ line) zero key at = sym (ap (λ (t : Ticket). suc (holders (t ∷ line))) (same_Some ticket (Ticket.waits key) at))
sets_held (Ticket.held ∷ line) (suc place) key at = ap suc (sets_held line place key at)
sets_held (Ticket.waits other ∷ line) (suc place) key at = sets_held line place key at

removes_waiting : (line : List Ticket) (place key : ℕ) → At line place (Ticket.waits key) → holders (remove line place) ≡ holders line
removes_waiting [] place key at = absurd (none_there place (Ticket.waits key) at)
removes_waiting (ticket ∷ line) zero key at = sym (ap (λ (t : Ticket). holders (t ∷ line)) (same_Some ticket (Ticket.waits key) at))
removes_waiting (Ticket.held ∷ line) (suc place) key at = ap suc (removes_waiting line place key at)
removes_waiting (Ticket.waits other ∷ line) (suc place) key at = removes_waiting line place key at

removes_held : (line : List Ticket) (place : ℕ) → At line place Ticket.held → suc (holders (remove line place)) ≡ holders line
removes_held [] place at = absurd (none_there place Ticket.held at)
removes_held (ticket ∷ line) zero at = sym (ap (λ (t : Ticket). holders (t ∷ line)) (same_Some ticket Ticket.held at))
removes_held (Ticket.held ∷ line) (suc place) at = ap suc (removes_held line place at)
removes_held (Ticket.waits other ∷ line) (suc place) at = removes_held line place at

-- each step's tokens
tokens : (max : ℕ) (old : List Ticket) (step : LineStep) (reply : LineReply) (new : List Ticket) → Steps max old step reply new → holders new + paid step reply ≡ holders old + gained reply
tokens max old Join Granted new s = more _ _ (ap holders s.1 ∙ joins_held old)
  where
    more : (n o : ℕ) → n ≡ suc o → n + 0 ≡ o + 1
    more n o e = omega (arith, e)
tokens max old Join (Waiting key) new s = same _ _ (ap holders s.2 ∙ joins_waiting old key)
  where
    same : (n o : ℕ) → n ≡ o → n + 0 ≡ o + 0
    same n o e = omega (arith, e)
tokens max old Join Memory new s = ap (λ (l : List Ticket). holders l + 0) s.1
tokens max old (Look key) Granted new s = more _ _ (ap holders s.3 ∙ sets_held old s.0 key s.1)
  where
    more : (n o : ℕ) → n ≡ suc o → n + 0 ≡ o + 1
    more n o e = omega (arith, e)
tokens max old (Look key) (Waiting again) new s = ap (λ (l : List Ticket). holders l + 0) s.4
tokens max old (Look key) Unknown new s = ap (λ (l : List Ticket). holders l + 0) s.1
tokens max old (Cancel key) Left new s = ap (λ (n : ℕ). n + 0) (ap holders s.2 ∙ removes_waiting old s.0 key s.1)
tokens max old (Cancel key) Unknown new s = ap (λ (l : List Ticket). holders l + 0) s.1
tokens max old Release Left new s = less _ _ (ap (λ (l : List Ticket). suc (holders l)) s.2 ∙ removes_held old s.0 s.1)
  where
    less : (n o : ℕ) → suc n ≡ o → n + 1 ≡ o + 0
    less n o e = omega (arith, e)
tokens max old Release Unknown new s = ap (λ (l : List Ticket). holders l + 0) s.1
tokens max old Free (Count free) new s = ap (λ (l : List Ticket). holders l + 0) s.1
tokens max old Join Left new s = elim s [ ]
tokens max old Join (Count free) new s = elim s [ ]
tokens max old Join Unknown new s = elim s [ ]
tokens max old (Look key) Left new s = elim s [ ]
tokens max old (Look key) (Count free) new s = elim s [ ]
tokens max old (Look key) Memory new s = elim s [ ]
tokens max old (Cancel key) Granted new s = elim s [ ]
tokens max old (Cancel key) (Waiting again) new s = elim s [ ]
tokens max old (Cancel key) (Count free) new s = elim s [ ]
tokens max old (Cancel key) Memory new s = elim s [ ]
tokens max old Release Granted new s = elim s [ ]
tokens max old Release (Waiting key) new s = elim s [ ]
tokens max old Release (Count free) new s = elim s [ ]
tokens max old Release Memory new s = elim s [ ]
tokens max old Free Granted new s = elim s [ ]
tokens max old Free (Waiting key) new s = elim s [ ]
tokens max old Free Left new s = elim s [ ]
tokens max old Free Unknown new s = elim s [ ]
tokens max old Free Memory new s = elim s [ ]

pub counts : (old : LineCore) (step : LineStep) (reply : LineReply) (new : LineCore) → StepsAs StandsFor LineSteps old step reply new → (new.max ≡ old.max) × (new.held + paid step reply ≡ old.held + gained reply) × (new.held ≤ new.max)
counts old step reply new (stood, follows) =
    let line : Line = stood.0 in
    let next = follows line stood.1 in
    let before = stood.1.1.2.0 in
    let after = next.2.1.2.0 in (
      sym next.2.0 ∙ next.1.0 ∙ stood.1.0,
      lemma _ _ _ _ before after (tokens line.max line.tickets step reply next.0.tickets next.1.1),
      bound _ _ after (within new.max next.0.tickets next.2.1.2.2),
    )
  where
    lemma : (b a o n : ℕ) → b ≡ o → a ≡ n → a + paid step reply ≡ b + gained reply → n + paid step reply ≡ o + gained reply
    lemma b a o n p q r = omega (arith, p, q, r)

    bound : (a n : ℕ) → a ≡ n → a ≤ new.max → n ≤ new.max
    bound a n e l = omega (arith, e, l)

pub starts : (core : LineCore) → Opens core → core.held ≡ 0
starts core opened = sym opened.1.1.2.0
