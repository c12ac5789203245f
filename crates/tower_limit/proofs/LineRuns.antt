-- What each step of the line keeps, and so each run.
use Rattle.std.proofs.Common.{◌≡◌, ◌⊎◌, ℕ, ◌+◌, ◌-◌, ◌<◌, zero, suc, List, [], ◌∷◌, ◌++◌, Some, slice_set, remove, refl, ap, ◌∙◌, sym, inl, inr, arith, length-take, length, take, subst}
use Rattle.std.proofs.lemmas.Bool.{cases_order}
use Rattle.std.proofs.lemmas.Option.{slice_get_within}
use Rattle.tower_limit.specs.Line.{Ticket, Line, At, Lacks, Steps, LineSteps, initial}
use Rattle.tower_latch.specs.Latch.{Serves}
use Rattle.tower_limit.specs.LineCore.{holders, HoldersBelow}
use Rattle.tower_limit.specs.LineLaws.{Sees, Ends, Always, Bounded, InOrder, Lasts, Counts, grants, returns, taken, one_if_granted, one_if_left}
use Rattle.tower_limit.specs.declared.limit.concurrency.line_core.LineStep.{LineStep}
use Rattle.tower_limit.specs.declared.limit.concurrency.line_core.LineStep.TheVariants.{Join, Look, Cancel, Release, Free}
use Rattle.tower_limit.specs.declared.limit.concurrency.line_core.LineReply.{LineReply}
use Rattle.tower_limit.specs.declared.limit.concurrency.line_core.LineReply.TheVariants.{Granted, Waiting, Left, Count, Unknown, Memory}
use Rattle.tower_limit.proofs.Lines.{few}
use Rattle.tower_limit.proofs.Places

-- no key waits at two places
abbrev Distinct : List Ticket → Type 0
Distinct line = (p q key : ℕ) → At line p (Ticket.waits key) → At line q (Ticket.waits key) → p ≡ q

abbrev Sound : ℕ → List Ticket → Type 0
Sound max line = HoldersBelow max line × Distinct line

distinct_hold : (line : List Ticket) → Distinct line → Distinct (line ++ Ticket.held ∷ [])
distinct_hold line d p q key a b =
    elim (Places.at_appended line Ticket.held (Ticket.waits key) p a) [
      | inl h ↦ elim (Places.at_appended line Ticket.held (Ticket.waits key) q b) [ inl k ↦ d p q key h k | inr k ↦ absurd (cc (k.1)) ]
      | inr h ↦ absurd (cc (h.1))
    ]

distinct_wait : (line : List Ticket) (new : ℕ) → Lacks line (Ticket.waits new) → Distinct line → Distinct (line ++ Ticket.waits new ∷ [])
distinct_wait line new lacks d p q key a b =
    elim (Places.at_appended line (Ticket.waits new) (Ticket.waits key) p a) [
      | inl h ↦ elim (Places.at_appended line (Ticket.waits new) (Ticket.waits key) q b) [
        | inl k ↦ d p q key h k
        | inr k ↦ absurd (lacks p (h ∙ ap Some (sym k.1)))
      ]
      | inr h ↦ elim (Places.at_appended line (Ticket.waits new) (Ticket.waits key) q b) [
        | inl k ↦ absurd (lacks q (k ∙ ap Some (sym h.1)))
        | inr k ↦ h.0 ∙ sym k.0
      ]
    ]

distinct_set : (line : List Ticket) (at : ℕ) → Distinct line → Distinct (slice_set line at Ticket.held)
distinct_set line at d p q key a b =
    elim (Places.at_was_set line (Ticket.waits key) at p a) [
      | inl h ↦ elim (Places.at_was_set line (Ticket.waits key) at q b) [ inl k ↦ d p q key h k | inr k ↦ absurd (cc k) ]
      | inr h ↦ absurd (cc h)
    ]

distinct_remove : (line : List Ticket) (at : ℕ) → Distinct line → Distinct (remove line at)
distinct_remove line at d p q key a b =
    elim (Places.at_removed line (Ticket.waits key) at p a) [
      | inl h ↦ elim (Places.at_removed line (Ticket.waits key) at q b) [
        | inl k ↦ d p q key h.1 k.1
        | inr k ↦ omega (arith, d p (suc q) key h.1 k.1, h.0, k.0)
      ]
      | inr h ↦ elim (Places.at_removed line (Ticket.waits key) at q b) [
        | inl k ↦ omega (arith, d (suc p) q key h.1 k.1, h.0, k.0)
        | inr k ↦ omega (arith, d (suc p) (suc q) key h.1 k.1)
      ]
    ]

sound : (max : ℕ) (old : List Ticket) (step : LineStep) (reply : LineReply) (new : List Ticket) → Steps max old step reply new → Sound max old → Sound max new
sound max old Join Granted new t s = rw t.1 (Places.below_hold max old s.0 t.0, distinct_hold old s.1)
sound max old Join (Waiting key) new t s = rw t.2 (Places.below_append max old key s.0, distinct_wait old key t.1 s.1)
sound max old Join Memory new t s = rw t.1 s
sound max old (Look key) Granted new t s = rw t.3 (Places.below_set max old t.0 s.0 t.2, distinct_set old t.0 s.1)
sound max old (Look key) (Waiting again) new t s = rw t.4 s
sound max old (Look key) Unknown new t s = rw t.1 s
sound max old (Cancel key) Left new t s = rw t.2 (Places.below_remove max old t.0 s.0, distinct_remove old t.0 s.1)
sound max old (Cancel key) Unknown new t s = rw t.1 s
sound max old Release Left new t s = rw t.2 (Places.below_remove max old t.0 s.0, distinct_remove old t.0 s.1)
sound max old Release Unknown new t s = rw t.1 s
sound max old Free (Count free) new t s = rw t.1 s
sound max old _ _ new t s = absurd t

-- a grant adds a holder, and a return takes one
balance : (max : ℕ) (old : List Ticket) (step : LineStep) (reply : LineReply) (new : List Ticket) → Steps max old step reply new
    → one_if_granted reply + holders old ≡ one_if_left step reply + holders new
balance max old Join Granted new t = rw t.1 (omega (arith, Places.holders_hold old))
balance max old Join (Waiting key) new t = rw t.2 (omega (arith, Places.holders_wait old key))
balance max old Join Memory new t = rw t.1 refl
balance max old (Look key) Granted new t = rw t.3 (omega (arith, Places.holders_set old t.0 key t.1))
balance max old (Look key) (Waiting again) new t = rw t.4 refl
balance max old (Look key) Unknown new t = rw t.1 refl
balance max old (Cancel key) Left new t = rw t.2 (omega (arith, Places.holders_cancel old t.0 key t.1))
balance max old (Cancel key) Unknown new t = rw t.1 refl
balance max old Release Left new t = rw t.2 (omega (arith, Places.holders_release old t.0 t.1))
balance max old Release Unknown new t = rw t.1 refl
balance max old Free (Count free) new t = rw t.1 refl
balance max old _ _ new t = absurd t

run_max : (old : Line) (steps : List (LineStep × LineReply)) (new : Line) → Serves LineSteps old steps new → new.max ≡ old.max
run_max old [] new r = ap (λ line. line.max) r
run_max old (step ∷ steps) new r = run_max r.0 steps new r.2 ∙ r.1.0

run_sound : (old : Line) (steps : List (LineStep × LineReply)) (new : Line) → Serves LineSteps old steps new → Sound old.max old.tickets → Sound new.max new.tickets
run_sound old [] new r s = rw r s
run_sound old (step ∷ steps) new r s =
    run_sound r.0 steps new r.2 (subst (λ (max : ℕ). Sound max r.0.tickets) (sym r.1.0) (sound old.max old.tickets step.0 step.1 r.0.tickets r.1.1 s))

run_balance : (old : Line) (steps : List (LineStep × LineReply)) (new : Line) → Serves LineSteps old steps new
    → grants steps + holders old.tickets ≡ returns steps + holders new.tickets
run_balance old [] new r = rw r refl
run_balance old (step ∷ steps) new r =
    omega (arith, balance old.max old.tickets step.0 step.1 r.0.tickets r.1.1, run_balance r.0 steps new r.2)

from_blank : (max : ℕ) (steps : List (LineStep × LineReply)) (line : Line) → Serves LineSteps (initial max) steps line → Sound max line.tickets
from_blank max steps line r =
    subst (λ (m : ℕ). Sound m line.tickets) (run_max (initial max) steps line r) (run_sound (initial max) steps line r (tt, λ p q key a b. absurd (cc a)))

pub bounded : Always Bounded
bounded max steps line r = omega (arith, run_balance (initial max) steps line r, few max line.tickets (from_blank max steps line r).0)

pub in_order : Always InOrder
in_order max steps line r key seen =
    let d = (from_blank max steps line r).1 in
    let t = seen.1 in
    let within = slice_get_within line.tickets t.0 (Ticket.waits key) t.1 in (
      λ n joined. absurd (omega (arith, joined.0, t.2)),
      λ young y granted.
          let g = granted.1 in
          let here = d y.0 t.0 key y.2 t.1 in
          let there = d y.1 g.0 young y.3 g.1 in
          absurd (omega (arith, t.2, g.2, y.4)),
    )

same_ticket : (line : List Ticket) (p : ℕ) (x y : Ticket) → At line p x → At line p y → x ≡ y
same_ticket line p x y a b = (cc)

-- the ticket stands where its look is granted
stands : (max : ℕ) (line : List Ticket) (key p : ℕ) → At line p (Ticket.waits key) → p < max → Sees max line key Granted
stands max line key p at low = (_, (p, at, low, refl))

removed : (max : ℕ) (line : List Ticket) (key p q : ℕ) → At line p (Ticket.waits key) → p < max → ¬ (p ≡ q) → Sees max (remove line q) key Granted
removed max line key p q at low ne =
    elim (cases_order p q) [
      | inl same ↦ absurd (ne same)
      | inr other ↦ elim other [
        | inl before ↦ stands max (remove line q) key p (Places.at_before line (Ticket.waits key) q p at before) low
        | inr after ↦ later line p q at low after
      ]
    ]
  where
    later : (l : List Ticket) (p q : ℕ) → At l p (Ticket.waits key) → p < max → q < p → Sees max (remove l q) key Granted
    later l zero q at low after = absurd (omega arith)
    later l (suc p) q at low after = stands max (remove l q) key p (Places.at_after l (Ticket.waits key) q p at (omega arith)) (omega arith)

lasts_at : (max : ℕ) (old : List Ticket) (key p : ℕ) → At old p (Ticket.waits key) → p < max → (step : LineStep) (reply : LineReply) (new : List Ticket)
    → Steps max old step reply new → Ends key step reply ⊎ Sees max new key Granted
lasts_at max old key p at low Join Granted new t = inr (rw t.1 (stands max _ key p (Places.at_append old _ _ p at) low))
lasts_at max old key p at low Join (Waiting k) new t = inr (rw t.2 (stands max _ key p (Places.at_append old _ _ p at) low))
lasts_at max old key p at low Join Memory new t = inr (rw t.1 (stands max old key p at low))
lasts_at max old key p at low (Look k) Granted new t = elim (cases_order p t.0) [
  | inl same ↦ inl (cc (t.1, at))
  | inr other ↦ inr (rw t.3 (stands max _ key p (Places.at_set old _ _ t.0 p at (λ e. elim other [ inl l ↦ omega arith | inr l ↦ omega arith ])) low))
]
lasts_at max old key p at low (Look k) (Waiting again) new t = inr (rw t.4 (stands max old key p at low))
lasts_at max old key p at low (Look k) Unknown new t = inr (rw t.1 (stands max old key p at low))
lasts_at max old key p at low (Cancel k) Left new t = elim (cases_order p t.0) [
  | inl same ↦ inl (cc (t.1, at))
  | inr other ↦ inr (rw t.2 (removed max old key p t.0 at low (λ e. elim other [ inl l ↦ omega arith | inr l ↦ omega arith ])))
]
lasts_at max old key p at low (Cancel k) Unknown new t = inr (rw t.1 (stands max old key p at low))
lasts_at max old key p at low Release Left new t = inr (rw t.2 (removed max old key p t.0 at low (λ e. cc (t.1, at))))
lasts_at max old key p at low Release Unknown new t = inr (rw t.1 (stands max old key p at low))
lasts_at max old key p at low Free (Count free) new t = inr (rw t.1 (stands max old key p at low))
lasts_at max old key p at low _ _ new t = absurd t

pub lasts : Always Lasts
lasts max steps line r key seen step reply next t = lasts_at max line.tickets key seen.1.0 seen.1.1 seen.1.2 step reply next t

less : (max : ℕ) (line : List Ticket) → HoldersBelow (suc max - 1) line → HoldersBelow max line
less max line below = subst (λ (m : ℕ). HoldersBelow m line) (omega arith) below

-- where holders stand below max, the tickets with a permit are the first max
few_taken : (max : ℕ) (line : List Ticket) → HoldersBelow max line → taken max line ≡ length (take max line)
few_taken zero [] below = refl
few_taken (suc max) [] below = refl
few_taken zero (Ticket.held ∷ line) below = absurd (omega (arith, below.0))
few_taken (suc max) (Ticket.held ∷ line) below = ap suc (few_taken max line (less max line below.1))
few_taken zero (Ticket.waits key ∷ line) below = few_taken zero line below
few_taken (suc max) (Ticket.waits key ∷ line) below = ap suc (few_taken max line (less max line below))

pub counts : Always Counts
counts max steps line r free next t = omega (arith, t.0, few_taken max line.tickets (from_blank max steps line r).0, length-take max line.tickets)
