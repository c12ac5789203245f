-- What closing leaves of the line.
use Rattle.std.proofs.Common.{◌≡◌, ℕ, ◌+◌, ◌-◌, zero, suc, List, [], ◌∷◌, remove, refl, ap, ◌∙◌, arith}
use Rattle.tower_limit.specs.Line.{Ticket, keys_of}
use Rattle.tower_limit.specs.LineCore.{holders, HoldersBelow, Stands}
use Rattle.tower_buffer.specs.Mail.{Leave, holding}
use Rattle.tower_limit.proofs.Lines.{leaves, weaker}

-- once nobody waits, the holders are the same
pub holders_stay : (line : List Ticket) → holders (holding line) ≡ holders line
holders_stay [] = refl
holders_stay (Ticket.held ∷ line) = ap suc (holders_stay line)
holders_stay (Ticket.waits key ∷ line) = holders_stay line

none_waits : (line : List Ticket) → keys_of (holding line) ≡ []
none_waits [] = refl
none_waits (Ticket.held ∷ line) = none_waits line
none_waits (Ticket.waits key ∷ line) = none_waits line

still_below : (max : ℕ) (line : List Ticket) → HoldersBelow max line → HoldersBelow max (holding line)
still_below max [] below = tt
still_below max (Ticket.held ∷ line) below = (below.0, still_below (max - 1) line below.1)
still_below max (Ticket.waits key ∷ line) below = weaker (max - 1) max (holding line) (omega arith) (still_below (max - 1) line below)

pub closes : (max held : ℕ) (keys : List ℕ) (line : List Ticket) → Stands max held keys line → Stands max held [] (holding line)
closes max held keys line s = (holders_stay line ∙ s.0, none_waits line, still_below max line s.2)

-- so many holders leave
pub leave : (n max held : ℕ) (keys : List ℕ) (line : List Ticket) → Stands max (n + held) keys line → (next : List Ticket) × Leave max n line next × Stands max held keys next
leave zero max held keys line s = (line, refl, (omega (arith, s.0), s.1, s.2))
leave (suc n) max held keys line s =
    let one = leaves max line s.2 (omega (arith, s.0)) in
    let more = leave n max held keys (remove line one.place) (omega (arith, one.gone.0, s.0), one.gone.1 ∙ s.1, one.gone.2) in
    (more.0, (remove line one.place, (one.place, one.at, refl), more.1), more.2)
