-- What a step of a line leaves of the tickets that it stands for.
use Rattle.std.proofs.Common.{◌≡◌, ℕ, ◌+◌, ◌-◌, ◌<◌, ◌≤◌, zero, suc, Bool, true, false, List, [], ◌∷◌, ◌++◌, length, remove, Result, Ok, Err, slice_get, refl, sym, ap, ◌∙◌, inl, inr, arith}
use Rattle.std.specs.declared.alloc.AllocError.{AllocError}
use Rattle.tower_base.specs.Order.{has}
use Rattle.tower_latch.specs.WaitList.{WaitList, Admits, Enters, Leaves, Looks, empty}
use Rattle.tower_latch.specs.WaitQueue.{Follows, StandsFor, granted, ungranted}
use Rattle.tower_limit.specs.Line.{Ticket, Steps}
use Rattle.tower_limit.specs.LineCore.{Stands, StandsAt}
use Rattle.tower_limit.specs.declared.limit.concurrency.line_core.LineStep.TheVariants.{Join, Look, Cancel, Release, Free}
use Rattle.tower_limit.specs.declared.limit.concurrency.line_core.LineReply.TheVariants.{Granted, Waiting, Left, Count, Unknown, Memory}
use Rattle.tower_latch.specs.declared.wait_queue.WaitState.TheVariants.{Granted as IsGranted, Waiting as IsWaiting, Unknown as HasNobody}
use Rattle.tower_latch.specs.declared.wait_queue.WaitQueue.{WaitQueue}
use Rattle.tower_limit.proofs.Lines.{counted, held_last, waits_last, found, lacks, leaves, no_holder}
use Rattle.tower_latch.proofs.WaitQueues.{SameSizes, admits_one, empty_sizes, entered_none, entered_one, keys_count, left_nobody, left_one, saw_nobody, saw_one, saw_waiting}

pub positive : (n : ℕ) → (n ≡ 0 → ⊥) → 0 < n
positive zero h = absurd (h refl)
positive (suc n) h = omega arith

-- the number of holders, said otherwise
pub stands_as : (max held other : ℕ) (queue : WaitQueue) (line : List Ticket) → held ≡ other → StandsAt max held queue line → StandsAt max other queue line
stands_as max held other queue line same s = (s.0, s.1, (s.2.0 ∙ same, s.2.1, s.2.2))

module _ (max held : ℕ) (old : WaitQueue) (line : List Ticket) (s : StandsAt max held old line) where
  line_length : length line ≡ held + (granted old + ungranted old)
  line_length = omega (arith, counted line, s.2.0, ap length s.2.1, keys_count old.granted old.waiters s.0 s.1)

  pub joins : held + granted old < max → (0 < ungranted old → held + granted old ≡ max) → (next : List Ticket) × Steps max line Join Granted next × StandsAt max (held + 1) old next
  joins free full =
      let lt : length line < max = omega (arith, line_length, nobody (ungranted old) full) in
      (line ++ Ticket.held ∷ [], (lt, refl), (s.0, s.1, held_last max held s.0.keys line s.2 lt))
    where
      nobody : (n : ℕ) → (0 < n → held + granted old ≡ max) → n ≡ 0
      nobody zero full = refl
      nobody (suc n) full = absurd (omega (arith, free, full (omega arith)))

  pub counts : (free : ℕ) → free ≡ max - (held + granted old) → (0 < ungranted old → held + granted old ≡ max) → Steps max line Free (Count free) line
  counts free is full = (at (ungranted old) full line_length, refl)
    where
      at : (n : ℕ) → (0 < n → held + granted old ≡ max) → length line ≡ held + (granted old + n) → free ≡ max - length line
      at zero full size = omega (arith, is, size)
      at (suc n) full size = omega (arith, is, size, full (omega arith))

  pub none_held : held ≡ 0 → Steps max line Release Unknown line
  none_held none = (no_holder line (s.2.0 ∙ none), refl)

  pub returned : 0 < held → (next : List Ticket) × Steps max line Release Left next × StandsAt max (held - 1) old next
  returned some =
      let r = leaves max line s.2.2 (omega (arith, s.2.0)) in
      (_, (r.place, r.at, refl), (s.0, s.1, (omega (arith, r.gone.0, s.2.0), r.gone.1 ∙ s.2.1, r.gone.2)))

  module _ (new : WaitQueue) where
    -- the same keys wait
    stays : (keys : List ℕ) → keys ≡ s.0.keys → Stands max held keys line
    stays keys same = (s.2.0, s.2.1 ∙ sym same, s.2.2)

    pub enters : (key : ℕ) → Follows old (λ p q. Enters p (Ok key) q) new → max ≤ held + granted old
        → (next : List Ticket) × Steps max line Join (Waiting key) next × StandsAt max held new next
    enters key f all =
        let r = f s.0 s.1 in
        let w = waits_last max key line s.2.2 in (
          line ++ Ticket.waits key ∷ [],
          (omega (arith, line_length, all), lacks line key (ap (λ l. has l key) s.2.1 ∙ r.1.0), refl),
          (r.0, r.2, (w.0 ∙ s.2.0, w.1 ∙ ap (λ l. l ++ key ∷ []) s.2.1 ∙ sym (ap (λ (q : WaitList). q.keys) r.1.1), w.2)),
        )

    pub no_memory : (error : AllocError) → Follows old (λ p q. Enters p (Err error) q) new → max ≤ held + granted old
        → (next : List Ticket) × Steps max line Join Memory next × StandsAt max held new next
    no_memory error f all =
        let r = f s.0 s.1 in
        (line, (omega (arith, line_length, all), refl), (r.0, r.2, stays r.0.keys (ap (λ (q : WaitList). q.keys) r.1)))

    pub sees : (key : ℕ) → Follows old (λ p q. Looks p key IsGranted q) new → held + granted old ≤ max
        → (next : List Ticket) × Steps max line (Look key) Granted next × StandsAt max (held + 1) new next
    sees key f fits =
        let r = f s.0 s.1 in
        let place = found max r.1.0 key line s.2.2 (ap (λ l. slice_get l r.1.0) s.2.1 ∙ r.1.1) in
        let low : place.place < max = place.early (omega (arith, s.2.0, s.1.4, r.1.2, fits)) in
        let g = place.granted low in
        (_, (place.place, place.at, low, refl), (r.0, r.2, (omega (arith, g.0, s.2.0), g.1 ∙ ap (λ l. remove l r.1.0) s.2.1 ∙ sym (ap (λ (q : WaitList). q.keys) r.1.3), g.2)))

    pub waits_on : (key : ℕ) → Follows old (λ p q. Looks p key IsWaiting q) new → max ≤ held + granted old
        → (next : List Ticket) × Steps max line (Look key) (Waiting key) next × StandsAt max held new next
    waits_on key f all =
        let r = f s.0 s.1 in
        let place = found max r.1.0 key line s.2.2 (ap (λ l. slice_get l r.1.0) s.2.1 ∙ r.1.1) in
        (line, (place.place, place.at, place.late (omega (arith, s.2.0, s.1.4, r.1.2, all)), refl, refl), (r.0, r.2, stays r.0.keys (ap (λ (q : WaitList). q.keys) r.1.3)))

    pub nobody : (key : ℕ) → Follows old (λ p q. Looks p key HasNobody q) new → (next : List Ticket) × Steps max line (Look key) Unknown next × StandsAt max held new next
    nobody key f =
        let r = f s.0 s.1 in
        (line, (lacks line key (ap (λ l. has l key) s.2.1 ∙ r.1.0), refl), (r.0, r.2, stays r.0.keys (ap (λ (q : WaitList). q.keys) r.1.1)))

    pub leaves_line : (key : ℕ) → Follows old (λ p q. Leaves p key true q) new → (next : List Ticket) × Steps max line (Cancel key) Left next × StandsAt max held new next
    leaves_line key f =
        let r = f s.0 s.1 in
        let place = found max r.1.0 key line s.2.2 (ap (λ l. slice_get l r.1.0) s.2.1 ∙ r.1.1) in
        let keys : r.0.keys ≡ remove s.0.keys r.1.0 = elim r.1.2 [
          | inl h ↦ ap (λ (q : WaitList). q.keys) h.1
          | inr h ↦ elim h.1 [ inl g ↦ ap (λ (q : WaitList). q.keys) g.1 | inr g ↦ ap (λ (q : WaitList). q.keys) g.1 ]
        ] in
        (_, (place.place, place.at, refl), (r.0, r.2, (place.gone.0 ∙ s.2.0, place.gone.1 ∙ ap (λ l. remove l r.1.0) s.2.1 ∙ sym keys, place.gone.2)))

    pub nobody_left : (key : ℕ) → Follows old (λ p q. Leaves p key false q) new → (next : List Ticket) × Steps max line (Cancel key) Unknown next × StandsAt max held new next
    nobody_left key f =
        let r = f s.0 s.1 in
        (line, (lacks line key (ap (λ l. has l key) s.2.1 ∙ r.1.0), refl), (r.0, r.2, stays r.0.keys (ap (λ (q : WaitList). q.keys) r.1.1)))

    -- the free permit goes to the first who waits
    pub admits : Follows old Admits new → StandsAt max held new line
    admits f =
        let r = f s.0 s.1 in
        (r.0, r.2, stays r.0.keys (elim r.1 [ inl h ↦ ap (λ (q : WaitList). q.keys) h.1 | inr h ↦ ap (λ (q : WaitList). q.keys) h.1 ]))

-- ---- what a line keeps

-- of so many permits so many are held, and nobody waits without a grant while one is free
pub record Fits (max held : ℕ) (queue : WaitQueue) : Type 0 where
  pub fits : held + granted queue ≤ max
  pub full : 0 < ungranted queue → held + granted queue ≡ max

module _ (max held : ℕ) (old new : WaitQueue) where
  same_fits : Fits max held old → SameSizes old new → Fits max held new
  same_fits f same = record {
    fits = omega (arith, f.fits, same.0);
    full = λ some. omega (arith, f.full (omega (arith, some, same.1)), same.0);
  }

  pub enters_fits : Fits max held old → (result : Result ℕ AllocError) → Follows old (λ p q. Enters p result q) new → max ≤ held + granted old → Fits max held new
  enters_fits f (Ok key) follows all =
      let n = entered_one old new key follows in
      record { fits = omega (arith, f.fits, n.0); full = λ some. omega (arith, f.fits, all, n.0) }
  enters_fits f (Err error) follows all = same_fits f (entered_none old new error follows)

  pub sees_fits : Fits max held old → (key : ℕ) → Follows old (λ p q. Looks p key IsGranted q) new → Fits max (held + 1) new
  sees_fits f key follows =
      let n = saw_one old new key follows in
      record { fits = omega (arith, f.fits, n.0); full = λ some. omega (arith, f.full (omega (arith, some, n.1)), n.0) }

  pub waits_on_fits : Fits max held old → (key : ℕ) → Follows old (λ p q. Looks p key IsWaiting q) new → Fits max held new
  waits_on_fits f key follows = same_fits f (saw_waiting old new key follows).1

  pub nobody_fits : Fits max held old → (key : ℕ) → Follows old (λ p q. Looks p key HasNobody q) new → Fits max held new
  nobody_fits f key follows = same_fits f (saw_nobody old new key follows)

  pub leaves_fits : Fits max held old → (key : ℕ) (result : Bool) → Follows old (λ p q. Leaves p key result q) new → Fits max held new
  leaves_fits f key true follows = elim (left_one old new key follows) [
    | inl n ↦ record { fits = omega (arith, f.fits, n.0); full = λ some. omega (arith, f.full (omega (arith, n.1)), n.0) }
    | inr n ↦ record { fits = omega (arith, f.fits, n.0); full = λ some. absurd (omega (arith, some, n.2)) }
  ]
  leaves_fits f key false follows = same_fits f (left_nobody old new key follows)

  -- a holder left
  pub admits_fits : Fits max (held + 1) old → Follows old Admits new → Fits max held new
  admits_fits f follows = elim (admits_one old new follows) [
    | inl n ↦ record { fits = omega (arith, f.fits, n.2); full = λ some. absurd (omega (arith, some, n.1)) }
    | inr n ↦ record { fits = omega (arith, f.fits, n.1); full = λ some. omega (arith, f.full (omega (arith, n.0)), n.1) }
  ]

pub empty_fits : (max held : ℕ) (queue : WaitQueue) → held ≤ max → StandsFor queue empty → Fits max held queue
empty_fits max held queue le s =
    let n = empty_sizes queue s in
    record { fits = omega (arith, le, n.0); full = λ some. absurd (omega (arith, some, n.1)) }
