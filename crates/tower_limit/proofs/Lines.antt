-- What holds of each list that a line stands for.
use Rattle.std.proofs.Common.{◌≡◌, ℕ, false, ◌+◌, ◌-◌, ◌<◌, ◌≤◌, zero, suc, List, [], ◌∷◌, ◌++◌, length, Some, slice_get, slice_set, remove, refl, ap, ◌∙◌, sym, subst, arith}
use Rattle.tower_base.specs.Order.{has}
use Rattle.tower_latch.specs.WaitQueue.{room, size}
use Rattle.tower_latch.proofs.KeysLemmas.{has_at, not_both}
use Rattle.tower_latch.proofs.WaitQueues.{keys_count, some_queue}
use Rattle.tower_limit.specs.Line.{Ticket, Line, At, Lacks, Steps, LineSteps, keys_of}
use Rattle.tower_limit.specs.LineCore.{holders, HoldersBelow, Stands, StandsFor, Follows}
use Rattle.tower_latch.specs.Latch.{FollowsMachine, StepsAs}
use Rattle.tower_limit.specs.declared.limit.concurrency.line_core.LineCore.{LineCore}
use Rattle.tower_limit.specs.declared.limit.concurrency.line_core.LineStep.{LineStep}
use Rattle.tower_limit.specs.declared.limit.concurrency.line_core.LineReply.{LineReply}

pub counted : (line : List Ticket) → length line ≡ holders line + length (keys_of line)
counted [] = refl
counted (Ticket.held ∷ line) = omega (arith, counted line)
counted (Ticket.waits key ∷ line) = omega (arith, counted line)

pub few : (max : ℕ) (line : List Ticket) → HoldersBelow max line → holders line ≤ max
few max [] below = omega arith
few max (Ticket.held ∷ line) below = omega (arith, few (max - 1) line below.1, below.0)
few max (Ticket.waits key ∷ line) below = omega (arith, few (max - 1) line below)

pub weaker : (low max : ℕ) (line : List Ticket) → low ≤ max → HoldersBelow low line → HoldersBelow max line
weaker low max [] le below = tt
weaker low max (Ticket.held ∷ line) le below = (omega (arith, below.0), weaker (low - 1) (max - 1) line (omega arith) below.1)
weaker low max (Ticket.waits key ∷ line) le below = weaker (low - 1) (max - 1) line (omega arith) below

-- a ticket at the end
pub held_last : (max held : ℕ) (keys : List ℕ) (line : List Ticket) → Stands max held keys line → length line < max → Stands max (held + 1) keys (line ++ Ticket.held ∷ [])
held_last max held keys [] s l = (omega (arith, s.0), s.1, (l, tt))
held_last max held keys (Ticket.held ∷ line) s l =
    let r = held_last (max - 1) (holders line) keys line (refl, s.1, s.2.1) (omega arith) in
    (omega (arith, s.0, r.0), r.1, (s.2.0, r.2))
held_last max held keys (Ticket.waits key ∷ line) s l =
    let r = held_last (max - 1) held (keys_of line) line (s.0, refl, s.2) (omega arith) in
    (r.0, ap (λ ks. key ∷ ks) r.1 ∙ s.1, r.2)

pub waits_last : (max key : ℕ) (line : List Ticket) → HoldersBelow max line
    → Stands max (holders line) (keys_of line ++ key ∷ []) (line ++ Ticket.waits key ∷ [])
waits_last max key [] below = (refl, refl, tt)
waits_last max key (Ticket.held ∷ line) below =
    let r = waits_last (max - 1) key line below.1 in (ap suc r.0, r.1, (below.0, r.2))
waits_last max key (Ticket.waits other ∷ line) below =
    let r = waits_last (max - 1) key line below in (r.0, ap (λ ks. other ∷ ks) r.1, r.2)

-- the i-th key that waits, its place, and the line once it is granted or gone
pub record Found (max i key : ℕ) (line : List Ticket) : Type 0 where
  pub place : ℕ
  pub at : At line place (Ticket.waits key)
  pub early : holders line + i < max → place < max
  pub late : max ≤ holders line + i → max ≤ place
  pub granted : place < max → Stands max (holders line + 1) (remove (keys_of line) i) (slice_set line place Ticket.held)
  pub gone : Stands max (holders line) (remove (keys_of line) i) (remove line place)

pub found : (max i key : ℕ) (line : List Ticket) → HoldersBelow max line → slice_get (keys_of line) i ≡ Some key → Found max i key line
found max i key [] below at = absurd (cc)
found max i key (Ticket.held ∷ line) below at =
    let r = found (max - 1) i key line below.1 at in record {
      place = suc r.place;
      at = r.at;
      early = λ h. omega (arith, r.early (omega arith));
      late = λ h. omega (arith, r.late (omega arith));
      granted = λ h. let s = r.granted (omega arith) in (omega (arith, s.0), s.1, (below.0, s.2));
      gone = (ap suc r.gone.0, r.gone.1, (below.0, r.gone.2));
    }
found max zero key (Ticket.waits other ∷ line) below at = record {
  place = 0;
  at = ap (λ k. Some (Ticket.waits k)) (cc);
  early = λ h. omega arith;
  late = λ h. omega (arith, few (max - 1) line below);
  granted = λ h. (omega arith, refl, (h, below));
  gone = (refl, refl, weaker (max - 1) max line (omega arith) below);
}
found max (suc i) key (Ticket.waits other ∷ line) below at =
    let r = found (max - 1) i key line below at in record {
      place = suc r.place;
      at = r.at;
      early = λ h. omega (arith, r.early (omega arith));
      late = λ h. omega (arith, r.late (omega arith));
      granted = λ h. let s = r.granted (omega arith) in (s.0, ap (λ ks. other ∷ ks) s.1, s.2);
      gone = (r.gone.0, ap (λ ks. other ∷ ks) r.gone.1, r.gone.2);
    }

key_at : (line : List Ticket) (place key : ℕ) → At line place (Ticket.waits key) → (i : ℕ) × (slice_get (keys_of line) i ≡ Some key)
key_at [] place key at = absurd (cc)
key_at (Ticket.held ∷ line) zero key at = absurd (cc)
key_at (Ticket.held ∷ line) (suc place) key at = key_at line place key at
key_at (Ticket.waits other ∷ line) zero key at = (0, (cc))
key_at (Ticket.waits other ∷ line) (suc place) key at = let r = key_at line place key at in (suc r.0, r.1)

pub lacks : (line : List Ticket) (key : ℕ) → has (keys_of line) key ≡ false → Lacks line (Ticket.waits key)
lacks line key none place at =
    let r = key_at line place key at in not_both (has (keys_of line) key) (has_at (keys_of line) r.0 key r.1) none

-- a holder that may leave
pub record Leaves (max : ℕ) (line : List Ticket) : Type 0 where
  pub place : ℕ
  pub at : At line place Ticket.held
  pub gone : Stands max (holders line - 1) (keys_of line) (remove line place)

pub leaves : (max : ℕ) (line : List Ticket) → HoldersBelow max line → 0 < holders line → Leaves max line
leaves max [] below h = absurd (omega arith)
leaves max (Ticket.held ∷ line) below h =
    record { place = 0; at = refl; gone = (omega arith, refl, weaker (max - 1) max line (omega arith) below.1) }
leaves max (Ticket.waits key ∷ line) below h =
    let r = leaves (max - 1) line below h in
    record { place = suc r.place; at = r.at; gone = (r.gone.0, ap (λ ks. key ∷ ks) r.gone.1, r.gone.2) }

pub no_holder : (line : List Ticket) → holders line ≡ 0 → Lacks line Ticket.held
no_holder [] none place at = absurd (cc)
no_holder (Ticket.held ∷ line) none place at = absurd (omega arith)
no_holder (Ticket.waits key ∷ line) none zero at = absurd (cc)
no_holder (Ticket.waits key ∷ line) none (suc place) at = no_holder line none place at

-- some list has these holders and keys: the holders first
waiting : List ℕ → List Ticket
waiting [] = []
waiting (key ∷ keys) = Ticket.waits key ∷ waiting keys

waiting_stands : (max : ℕ) (keys : List ℕ) → Stands max 0 keys (waiting keys)
unfolding waiting
waiting_stands max [] = (refl, refl, tt)
waiting_stands max (key ∷ keys) = let r = waiting_stands (max - 1) keys in (r.0, ap (λ ks. key ∷ ks) r.1, r.2)

pub some_line : (max held : ℕ) (keys : List ℕ) → held ≤ max → (line : List Ticket) × Stands max held keys line
some_line max zero keys le = (waiting keys, waiting_stands max keys)
some_line max (suc held) keys le =
    let r = some_line (max - 1) held keys (omega arith) in (Ticket.held ∷ r.0, (ap suc r.1.0, r.1.1, (omega arith, r.1.2)))

-- some line is what the core stands for
pub some_plain : (core : LineCore) → (line : Line) × StandsFor core line
some_plain core =
    let q = some_queue core.queue in
    let r = some_line core.max core.held q.0.keys (omega (arith, core.fits)) in
    (record { max = core.max; tickets = r.0; room = room core.queue }, (refl, (q.0, q.1, r.1), refl))

-- a step of a core follows the line's machine
pub follows : (old new : LineCore) (step : LineStep) (reply : LineReply) → Follows old step reply new → FollowsMachine StandsFor LineSteps old step reply new
follows old new step reply f plain stands =
    let r = f.goes plain.tickets stands.1 in
    let waiting : length (keys_of plain.tickets) ≡ size old.queue = ap length stands.1.2.1 ∙ keys_count old.queue.granted old.queue.waiters stands.1.0 stands.1.1 in (
      record { max = plain.max; tickets = r.0; room = room new.queue },
      (
        refl,
        subst (λ (max : ℕ). Steps max plain.tickets step reply r.0) (sym stands.0) r.1,
        rw (stands.2, waiting) f.excused,
        rw stands.2 f.room,
      ),
      (stands.0 ∙ sym f.same, r.2, refl),
    )

-- some line makes the step that a step of a core says
pub stepped : (old new : LineCore) (step : LineStep) (reply : LineReply) → StepsAs StandsFor LineSteps old step reply new
    → (line : Line) × (next : Line) × LineSteps line step reply next
stepped old new step reply s = let r = s.1 s.0.0 s.0.1 in (s.0.0, r.0, r.1)
