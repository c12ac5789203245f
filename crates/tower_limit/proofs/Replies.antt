-- Which replies a line gives.
use Rattle.std.proofs.Common.{◌≡◌, ◌⊎◌, ◌≤◌, ℕ, suc, List, [], ◌∷◌, Option, None, Some, inl, inr, refl, ap, arith, ◌∙◌, subst}
use Rattle.tower_latch.specs.Latch.{StepsAs}
use Rattle.tower_limit.proofs.Lines.{stepped}
use Rattle.tower_limit.specs.LineCore.{StandsFor, holders}
use Rattle.tower_limit.specs.Concurrency.{step_of}
use Rattle.tower_limit.specs.LineTokens.{paid, gained}
use Rattle.tower_limit.specs.declared.limit.concurrency.line_core.LineCore.{LineCore}
use Rattle.tower_limit.specs.Line.{At, Line, Steps, LineSteps, Ticket}
use Rattle.tower_limit.specs.declared.limit.concurrency.line_core.LineStep.{LineStep}
use Rattle.tower_limit.specs.declared.limit.concurrency.line_core.LineStep.TheVariants.{Join, Look, Cancel, Release, Free}
use Rattle.tower_limit.specs.declared.limit.concurrency.line_core.LineReply.{LineReply}
use Rattle.tower_limit.specs.declared.limit.concurrency.line_core.LineReply.TheVariants.{Granted, Waiting, Left, Count, Unknown, Memory}

-- who leaves gives one permit back at most
pub pays_one : (reply : LineReply) → paid Release reply ≤ 1
pays_one Granted = omega arith
pays_one (Waiting key) = omega arith
pays_one Left = omega arith
pays_one (Count n) = omega arith
pays_one Unknown = omega arith
pays_one Memory = omega arith

count_reply : (max : ℕ) (line next : _) (reply : LineReply) → Steps max line Free reply next → (n : ℕ) × (reply ≡ Count n)
count_reply max line next (Count n) t = (n, (cc))
count_reply max line next Granted t = absurd t
count_reply max line next (Waiting k) t = absurd t
count_reply max line next Left t = absurd t
count_reply max line next Unknown t = absurd t
count_reply max line next Memory t = absurd t

-- some line gives this reply to the step
abbrev Gave : LineStep → LineReply → Type 0
Gave step reply = (old : LineCore) × (new : LineCore) × StepsAs StandsFor LineSteps old step reply new

paid_by : (key : Option ℕ) (reply : LineReply) → paid (step_of key) reply ≡ 0
paid_by None reply = refl
paid_by (Some key) reply = refl

-- who asks for a permit gives none back
pub asks_unpaid : (step : LineStep) (reply : LineReply) → (key : Option ℕ) × (step ≡ step_of key) → paid step reply ≡ 0
asks_unpaid step reply asked = ap (λ (s : LineStep). paid s reply) asked.1 ∙ paid_by asked.0 reply

pub free_counts : (reply : LineReply) → Gave Free reply → (n : ℕ) × (reply ≡ Count n)
free_counts reply g = let t = stepped g.0 g.1 Free reply g.2 in count_reply _ t.0.tickets t.1.tickets reply t.2.1

-- who asks for a permit is told neither that somebody left nor a number
asker_left : (key : Option ℕ) → Gave (step_of key) Left → ⊥
asker_left None g = (stepped g.0 g.1 Join Left g.2).2.1
asker_left (Some key) g = (stepped g.0 g.1 (Look key) Left g.2).2.1

asker_counts : (key : Option ℕ) (n : ℕ) → Gave (step_of key) (Count n) → ⊥
asker_counts None n g = (stepped g.0 g.1 Join (Count n) g.2).2.1
asker_counts (Some key) n g = (stepped g.0 g.1 (Look key) (Count n) g.2).2.1

pub unasked : (step : LineStep) (reply : LineReply) → Gave step reply → (key : Option ℕ) × (step ≡ step_of key)
    → (reply ≡ Left) ⊎ ((n : ℕ) × (reply ≡ Count n)) → ⊥
unasked step reply g asked told = elim told [
  | inl left ↦ asker_left asked.0
      (subst (λ (s : LineStep). Gave s Left) asked.1
      (subst (λ (r : LineReply). Gave step r) left g))
  | inr count ↦ asker_counts asked.0 count.0
      (subst (λ (s : LineStep). Gave s (Count count.0)) asked.1
      (subst (λ (r : LineReply). Gave step r) count.1 g))
]

counts_gain : (max : ℕ) (line next : List Ticket) (reply : LineReply) → Steps max line Free reply next → gained reply ≡ 0
counts_gain max line next (Count n) t = refl
counts_gain max line next Granted t = absurd t
counts_gain max line next (Waiting k) t = absurd t
counts_gain max line next Left t = absurd t
counts_gain max line next Unknown t = absurd t
counts_gain max line next Memory t = absurd t

cancels_gain : (max key : ℕ) (line next : List Ticket) (reply : LineReply) → Steps max line (Cancel key) reply next → gained reply ≡ 0
cancels_gain max key line next Left t = refl
cancels_gain max key line next Unknown t = refl
cancels_gain max key line next Granted t = absurd t
cancels_gain max key line next (Waiting k) t = absurd t
cancels_gain max key line next (Count n) t = absurd t
cancels_gain max key line next Memory t = absurd t

-- a count grants nothing
pub free_gains_none : (old : LineCore) (reply : LineReply) (new : LineCore) → StepsAs StandsFor LineSteps old Free reply new → gained reply ≡ 0
free_gains_none old reply new s = let t = stepped old new Free reply s in counts_gain t.0.max t.0.tickets t.1.tickets reply t.2.1

-- who leaves is granted nothing
pub cancel_gains_none : (key : ℕ) (old : LineCore) (reply : LineReply) (new : LineCore) → StepsAs StandsFor LineSteps old (Cancel key) reply new → gained reply ≡ 0
cancel_gains_none key old reply new s = let t = stepped old new (Cancel key) reply s in cancels_gain t.0.max key t.0.tickets t.1.tickets reply t.2.1

leaves_gain : (max : ℕ) (line next : List Ticket) (reply : LineReply) → Steps max line Release reply next → gained reply ≡ 0
leaves_gain max line next Left t = refl
leaves_gain max line next Unknown t = refl
leaves_gain max line next Granted t = absurd t
leaves_gain max line next (Waiting k) t = absurd t
leaves_gain max line next (Count n) t = absurd t
leaves_gain max line next Memory t = absurd t

-- who gives a permit back is granted none
pub release_gains_none : (old : LineCore) (reply : LineReply) (new : LineCore) → StepsAs StandsFor LineSteps old Release reply new → gained reply ≡ 0
release_gains_none old reply new s = let t = stepped old new Release reply s in leaves_gain t.0.max t.0.tickets t.1.tickets reply t.2.1

holder_at : (line : List Ticket) → 1 ≤ holders line → (place : ℕ) × At line place Ticket.held
holder_at [] some = absurd (omega (arith, some))
holder_at (Ticket.held ∷ line) some = (0, refl)
holder_at (Ticket.waits key ∷ line) some = let there = holder_at line some in (suc there.0, there.1)

releases : (max : ℕ) (line next : List Ticket) (reply : LineReply) → 1 ≤ holders line → Steps max line Release reply next → (paid Release reply ≡ 1) × (gained reply ≡ 0)
releases max line next Left some t = (refl, refl)
releases max line next Unknown some t = let there = holder_at line some in absurd (t.0 there.0 there.1)
releases max line next Granted some t = absurd t
releases max line next (Waiting k) some t = absurd t
releases max line next (Count n) some t = absurd t
releases max line next Memory some t = absurd t

-- if somebody holds a permit, a release gives one back
pub release_pays : (old : LineCore) (reply : LineReply) (new : LineCore) → StepsAs StandsFor LineSteps old Release reply new → 1 ≤ old.held
    → (paid Release reply ≡ 1) × (gained reply ≡ 0)
release_pays old reply new (stood, follows) some =
    let line : Line = stood.0 in
    let next = follows line stood.1 in
    releases line.max line.tickets next.0.tickets reply (omega (arith, stood.1.1.2.0, some)) next.1.1
