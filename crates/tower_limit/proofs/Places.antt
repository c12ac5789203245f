-- Where tickets stand after a change of the line.
use Rattle.std.proofs.Common.{◌≡◌, ◌⊎◌, ℕ, ◌+◌, ◌-◌, ◌<◌, ◌≤◌, zero, suc, List, [], ◌∷◌, ◌++◌, length, slice_set, remove, refl, ap, inl, inr, arith}
use Rattle.tower_limit.specs.Line.{Ticket, At}
use Rattle.tower_limit.specs.LineCore.{holders, HoldersBelow}
use Rattle.tower_limit.proofs.Lines.{weaker}

-- a ticket at the end
pub at_append : (line : List Ticket) (t x : Ticket) (p : ℕ) → At line p x → At (line ++ t ∷ []) p x
at_append [] t x p at = absurd (cc)
at_append (y ∷ line) t x zero at = at
at_append (y ∷ line) t x (suc p) at = at_append line t x p at

pub at_appended : (line : List Ticket) (t x : Ticket) (p : ℕ) → At (line ++ t ∷ []) p x → At line p x ⊎ ((p ≡ length line) × (t ≡ x))
at_appended [] t x zero at = inr (refl, (cc))
at_appended [] t x (suc p) at = absurd (cc)
at_appended (y ∷ line) t x zero at = inl at
at_appended (y ∷ line) t x (suc p) at = elim (at_appended line t x p at) [ inl h ↦ inl h | inr h ↦ inr (ap suc h.0, h.1) ]

pub below_append : (max : ℕ) (line : List Ticket) (key : ℕ) → HoldersBelow max line → HoldersBelow max (line ++ Ticket.waits key ∷ [])
below_append max [] key h = tt
below_append max (Ticket.held ∷ line) key h = (h.0, below_append (max - 1) line key h.1)
below_append max (Ticket.waits k ∷ line) key h = below_append (max - 1) line key h

pub below_hold : (max : ℕ) (line : List Ticket) → HoldersBelow max line → length line < max → HoldersBelow max (line ++ Ticket.held ∷ [])
below_hold max [] h l = (l, tt)
below_hold max (Ticket.held ∷ line) h l = (h.0, below_hold (max - 1) line h.1 (omega arith))
below_hold max (Ticket.waits k ∷ line) h l = below_hold (max - 1) line h (omega arith)

pub holders_hold : (line : List Ticket) → holders (line ++ Ticket.held ∷ []) ≡ holders line + 1
holders_hold [] = refl
holders_hold (Ticket.held ∷ line) = omega (arith, holders_hold line)
holders_hold (Ticket.waits k ∷ line) = holders_hold line

pub holders_wait : (line : List Ticket) (key : ℕ) → holders (line ++ Ticket.waits key ∷ []) ≡ holders line
holders_wait [] key = refl
holders_wait (Ticket.held ∷ line) key = ap suc (holders_wait line key)
holders_wait (Ticket.waits k ∷ line) key = holders_wait line key

-- a granted ticket
pub at_set : (line : List Ticket) (t x : Ticket) (p q : ℕ) → At line q x → ¬ (q ≡ p) → At (slice_set line p t) q x
at_set [] t x p q at ne = absurd (cc)
at_set (y ∷ line) t x zero zero at ne = absurd (ne refl)
at_set (y ∷ line) t x zero (suc q) at ne = at
at_set (y ∷ line) t x (suc p) zero at ne = at
at_set (y ∷ line) t x (suc p) (suc q) at ne = at_set line t x p q at (λ e. ne (ap suc e))

pub at_was_set : (line : List Ticket) (x : Ticket) (p q : ℕ) → At (slice_set line p Ticket.held) q x → At line q x ⊎ (Ticket.held ≡ x)
at_was_set [] x p q at = absurd (cc)
at_was_set (y ∷ line) x zero zero at = inr (cc)
at_was_set (y ∷ line) x zero (suc q) at = inl at
at_was_set (y ∷ line) x (suc p) zero at = inl at
at_was_set (y ∷ line) x (suc p) (suc q) at = at_was_set line x p q at

pub below_set : (max : ℕ) (line : List Ticket) (p : ℕ) → HoldersBelow max line → p < max → HoldersBelow max (slice_set line p Ticket.held)
below_set max [] p h l = tt
below_set max (Ticket.held ∷ line) zero h l = h
below_set max (Ticket.waits k ∷ line) zero h l = (l, h)
below_set max (Ticket.held ∷ line) (suc p) h l = (h.0, below_set (max - 1) line p h.1 (omega arith))
below_set max (Ticket.waits k ∷ line) (suc p) h l = below_set (max - 1) line p h (omega arith)

pub holders_set : (line : List Ticket) (p key : ℕ) → At line p (Ticket.waits key) → holders (slice_set line p Ticket.held) ≡ holders line + 1
holders_set [] p key at = absurd (cc)
holders_set (Ticket.held ∷ line) zero key at = absurd (cc)
holders_set (Ticket.waits k ∷ line) zero key at = omega arith
holders_set (Ticket.held ∷ line) (suc p) key at = omega (arith, holders_set line p key at)
holders_set (Ticket.waits k ∷ line) (suc p) key at = holders_set line p key at

-- a ticket that left
pub at_before : (line : List Ticket) (x : Ticket) (p q : ℕ) → At line q x → q < p → At (remove line p) q x
at_before [] x p q at l = absurd (cc)
at_before (y ∷ line) x zero q at l = absurd (omega arith)
at_before (y ∷ line) x (suc p) zero at l = at
at_before (y ∷ line) x (suc p) (suc q) at l = at_before line x p q at (omega arith)

pub at_after : (line : List Ticket) (x : Ticket) (p q : ℕ) → At line (suc q) x → p ≤ q → At (remove line p) q x
at_after [] x p q at l = absurd (cc)
at_after (y ∷ line) x zero q at l = at
at_after (y ∷ line) x (suc p) zero at l = absurd (omega arith)
at_after (y ∷ line) x (suc p) (suc q) at l = at_after line x p q at (omega arith)

pub at_removed : (line : List Ticket) (x : Ticket) (p q : ℕ) → At (remove line p) q x → ((q < p) × At line q x) ⊎ ((p ≤ q) × At line (suc q) x)
at_removed [] x zero q at = absurd (cc)
at_removed [] x (suc p) q at = absurd (cc)
at_removed (y ∷ line) x zero q at = inr (omega arith, at)
at_removed (y ∷ line) x (suc p) zero at = inl (omega arith, at)
at_removed (y ∷ line) x (suc p) (suc q) at =
    elim (at_removed line x p q at) [ inl h ↦ inl (omega (arith, h.0), h.1) | inr h ↦ inr (omega (arith, h.0), h.1) ]

pub below_remove : (max : ℕ) (line : List Ticket) (p : ℕ) → HoldersBelow max line → HoldersBelow max (remove line p)
below_remove max [] zero h = tt
below_remove max [] (suc p) h = tt
below_remove max (Ticket.held ∷ line) zero h = weaker (max - 1) max line (omega arith) h.1
below_remove max (Ticket.waits k ∷ line) zero h = weaker (max - 1) max line (omega arith) h
below_remove max (Ticket.held ∷ line) (suc p) h = (h.0, below_remove (max - 1) line p h.1)
below_remove max (Ticket.waits k ∷ line) (suc p) h = below_remove (max - 1) line p h

pub holders_cancel : (line : List Ticket) (p key : ℕ) → At line p (Ticket.waits key) → holders (remove line p) ≡ holders line
holders_cancel [] p key at = absurd (cc)
holders_cancel (Ticket.held ∷ line) zero key at = absurd (cc)
holders_cancel (Ticket.waits k ∷ line) zero key at = refl
holders_cancel (Ticket.held ∷ line) (suc p) key at = ap suc (holders_cancel line p key at)
holders_cancel (Ticket.waits k ∷ line) (suc p) key at = holders_cancel line p key at

pub holders_release : (line : List Ticket) (p : ℕ) → At line p Ticket.held → holders (remove line p) + 1 ≡ holders line
holders_release [] p at = absurd (cc)
holders_release (Ticket.held ∷ line) zero at = omega arith
holders_release (Ticket.waits k ∷ line) zero at = absurd (cc)
holders_release (Ticket.held ∷ line) (suc p) at = omega (arith, holders_release line p at)
holders_release (Ticket.waits k ∷ line) (suc p) at = holders_release line p at
