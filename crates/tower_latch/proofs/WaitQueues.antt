-- What a step of a queue leaves of those who wait.
use Rattle.std.proofs.Common.{◌≡◌, ◌⊎◌, ℕ, ◌+◌, ◌-◌, ◌<◌, ◌≤◌, zero, suc, Bool, true, false, ◌&&◌, not, is_some, List, [], ◌∷◌, ◌++◌, length, length-append, Some, None, Result, Ok, Err, slice_get, remove, refl, sym, ap, ◌∙◌, inl, inr, arith}
use Rattle.std.specs.declared.alloc.AllocError.{AllocError}
use Rattle.std.proofs.lemmas.Bool.{cases_order}
use Rattle.slab.specs.Slab.{get, Updates}
use Rattle.tower_base.specs.Links.{LinksView}
use Rattle.tower_base.specs.Order.{has, without, first_or, Apart}
use Rattle.tower_latch.specs.WaitList.{WaitList, Admits, Enters, Leaves, Looks, empty}
use Rattle.tower_latch.specs.WaitQueue.{Follows, StandsAs, StandsFor, granted, size, ungranted}
use Rattle.tower_latch.specs.Wakes.{FreesOne}
use Rattle.tower_latch.specs.declared.Wakes.{Wakes}
use Rattle.tower_latch.specs.declared.Wakes.TheVariants.{Wait, Nobody, One, Unstalled, All}
use Rattle.tower_latch.specs.Waiters.{IsPresent, Waits, are_apart, outside}
use Rattle.tower_latch.specs.declared.wait_queue.WaitState.TheVariants.{Granted, Waiting, Unknown}
use Rattle.tower_latch.specs.declared.wait_queue.WaitQueue.{WaitQueue}
use Rattle.tower_latch.proofs.KeysLemmas.{append_assoc, apart_front, apart_is, at_has, behind, has_append, in_front, is_apart, length_without, or_right, without_append, without_at, without_lacks}
use Rattle.tower_latch.proofs.Waiters.{admitted, granted_has, grown, pushed, removed, outside_waits, waits_apart, waits_count, waits_present}

abbrev pub IsIn : List ℕ → ℕ → Type 0
IsIn order key = has order key ≡ true

-- who is freed of those in the order was in any order that has them all
pub frees_as : (old mid new : List ℕ) (wakes : Wakes) → ((key : ℕ) → IsIn mid key → IsIn old key) → FreesOne IsIn mid new wakes → FreesOne IsIn old new wakes
frees_as old mid new (Wait key) had frees = absurd frees
frees_as old mid new Nobody had frees = tt
frees_as old mid new (One key) had frees = (had key frees.0, frees.1)
frees_as old mid new Unstalled had frees = absurd frees
frees_as old mid new All had frees = absurd frees

-- so many were granted, and wait with those in the order
pub record Kept (count : ℕ) (waiters : LinksView (Unit {0})) : Type 0 where
  pub front : List ℕ
  pub waits : Waits front waiters
  pub size : length front ≡ count

-- what a queue keeps of those who wait, and what it needs of them
pub kept_from : (count : ℕ) (waiters : LinksView (Unit {0})) → Apart waiters.order → IsPresent waiters → length (outside waiters) ≡ count → Kept count waiters
kept_from count waiters apart present size = record { front = outside waiters; waits = outside_waits waiters apart present; size = size }

pub kept_of : (queue : WaitQueue) → Kept queue.granted queue.waiters
kept_of queue = kept_from queue.granted queue.waiters (apart_is queue.waiters.order queue.apart) queue.present queue.count

pub kept_apart : (count : ℕ) (waiters : LinksView (Unit {0})) → Kept count waiters → are_apart waiters.order ≡ true
kept_apart count waiters k = is_apart waiters.order (waits_apart waiters k.front k.waits)

pub kept_present : (count : ℕ) (waiters : LinksView (Unit {0})) → Kept count waiters → IsPresent waiters
kept_present count waiters k = waits_present waiters k.front k.waits

pub kept_count : (count : ℕ) (waiters : LinksView (Unit {0})) → Kept count waiters → length (outside waiters) ≡ count
kept_count count waiters k = waits_count waiters k.front k.waits ∙ k.size

-- ---- the order

pub has_some : (keys : List ℕ) (key : ℕ) → has keys key ≡ true → 0 < length keys
has_some [] key h = absurd (cc)
has_some (x ∷ rest) key h = omega arith

pub first_is : (order : List ℕ) (key : ℕ) → Some key ≡ first_or order None → (rest : List ℕ) × (order ≡ key ∷ rest)
first_is [] key h = absurd (cc)
first_is (x ∷ rest) key h = (rest, (cc))

pub none_is : (order : List ℕ) → None ≡ first_or order None → order ≡ []
none_is [] h = refl
none_is (x ∷ rest) h = absurd (cc)

cases_has : (order : List ℕ) (key : ℕ) → (has order key ≡ true) ⊎ (has order key ≡ false)
cases_has order key = at (has order key)
  where
    at : (b : Bool) → (b ≡ true) ⊎ (b ≡ false)
    at true = inl refl
    at false = inr refl

-- a list that is longer than without a key had it
pub longer : (order : List ℕ) (key : ℕ) → (length (without order key) ≡ length order → ⊥) → has order key ≡ true
longer order key ne = elim (cases_has order key) [
  | inl h ↦ h
  | inr lacks ↦ absurd (ne (ap length (without_lacks order key lacks)))
]

pub no_shorter : (order : List ℕ) (key : ℕ) → are_apart order ≡ true → length order ≤ length (without order key) → has order key ≡ false
no_shorter order key apart le = elim (cases_has order key) [
  | inl h ↦ absurd (omega (arith, le, length_without order key (apart_is order apart) h))
  | inr lacks ↦ lacks
]

-- ---- those who wait, before and after a change

module _ (count : ℕ) (old new : LinksView (Unit {0})) (k : Kept count old) where
  abbrev whole : List ℕ
  whole = k.front ++ old.order

  has_whole : (key : ℕ) → has old.order key ≡ true → has whole key ≡ true
  has_whole key h = has_append k.front old.order key ∙ or_right (has k.front key) (has old.order key) h

  and_false : (a : Bool) → a && false ≡ false
  and_false true = refl
  and_false false = refl

  front_lacks : (key : ℕ) → has old.order key ≡ true → has k.front key ≡ false
  front_lacks key h =
      granted_has old k.front k.waits key ∙ ap (λ b. is_some (get old.entries key) && not b) h ∙ and_false (is_some (get old.entries key))

  front_has : (key : ℕ) → is_some (get old.entries key) ≡ true → has old.order key ≡ false → has k.front key ≡ true
  front_has key h lacks =
      granted_has old k.front k.waits key ∙ ap (λ b. is_some (get old.entries key) && not b) lacks ∙ ap (λ b. b && true) h

  pub kept_grown : new.order ≡ old.order → ((key : ℕ) → get new.entries key ≡ get old.entries key) → Kept count new
  kept_grown order same = record { front = k.front; waits = grown k.front old new k.waits order same; size = k.size }

  pub kept_pushed : (key : ℕ) → get old.entries key ≡ None → Updates old.entries new.entries key (Some tt) → new.order ≡ old.order ++ key ∷ [] → Kept count new
  kept_pushed key vacant updates order = record { front = k.front; waits = pushed k.front old new k.waits key vacant updates order; size = k.size }

  module _ (key : ℕ) (updates : Updates old.entries new.entries key None) (order : new.order ≡ without old.order key) where
    pub kept_left : has old.order key ≡ true → Kept count new
    kept_left h = record {
      front = without k.front key;
      waits = removed k.front old new k.waits key updates order;
      size = ap length (without_lacks k.front key (front_lacks key h)) ∙ k.size;
    }

    pub kept_taken : is_some (get old.entries key) ≡ true → has old.order key ≡ false → Kept (count - 1) new
    kept_taken h lacks = record {
      front = without k.front key;
      waits = removed k.front old new k.waits key updates order;
      size = omega (arith, length_without k.front key (apart_front k.front old.order k.waits.apart) (front_has key h lacks), k.size);
    }

    pub kept_gone : get old.entries key ≡ None → Kept count new
    kept_gone none = record {
      front = without k.front key;
      waits = removed k.front old new k.waits key updates order;
      size = ap length (without_lacks k.front key (granted_has old k.front k.waits key ∙ ap (λ x. is_some x && not (has old.order key)) none)) ∙ k.size;
    }

  pub kept_admitted : (key : ℕ) (rest : List ℕ) → old.order ≡ key ∷ rest → new.order ≡ without old.order key → new.entries ≡ old.entries → Kept (count + 1) new
  kept_admitted key rest is order entries = record {
    front = k.front ++ key ∷ [];
    waits = (admitted k.front old new k.waits key rest is order entries).2;
    size = omega (arith, length-append k.front (key ∷ []), k.size);
  }

-- ---- plain queues

-- some plain queue is what the queue stands for: those outside the order first
pub some_queue : (queue : WaitQueue) → (plain : WaitList) × StandsFor queue plain
some_queue queue = (
  record { keys = outside queue.waiters ++ queue.waiters.order; granted = queue.granted },
  (outside queue.waiters, outside_waits queue.waiters (apart_is queue.waiters.order queue.apart) queue.present, queue.count, refl, refl),
)

-- how many wait
pub keys_count : (count : ℕ) (waiters : LinksView (Unit {0})) (plain : WaitList) → StandsAs count waiters plain → length plain.keys ≡ count + length waiters.order
keys_count count waiters plain s = omega (arith, ap length s.3, length-append s.0 waiters.order, s.2)

module _ (count : ℕ) (old : LinksView (Unit {0})) (plain : WaitList) (s : StandsAs count old plain) where
  abbrev kept_at : Kept count old
  kept_at = record { front = s.0; waits = s.1; size = s.2 }

  pub stays : (new : LinksView (Unit {0})) → new.order ≡ old.order → ((key : ℕ) → get new.entries key ≡ get old.entries key) → StandsAs count new plain
  stays new order same = (s.0, grown s.0 old new s.1 order same, s.2, rw order s.3, s.4)

  -- nobody has a key without an entry
  pub lacks_key : (key : ℕ) → get old.entries key ≡ None → has plain.keys key ≡ false
  lacks_key key none = ap (λ l. has l key) s.3 ∙ s.1.present key ∙ ap is_some none

  pub enters : (new : LinksView (Unit {0})) (key : ℕ) → get old.entries key ≡ None → Updates old.entries new.entries key (Some tt) → new.order ≡ old.order ++ key ∷ []
      → (next : WaitList) × Enters plain (Ok key) next × StandsAs count new next
  enters new key vacant updates order = (
    record plain { keys = plain.keys ++ key ∷ [] },
    (lacks_key key vacant, refl),
    (
      s.0,
      pushed s.0 old new s.1 key vacant updates order,
      s.2,
      ap (λ l. l ++ key ∷ []) s.3 ∙ append_assoc s.0 old.order (key ∷ []) ∙ sym (ap (λ l. s.0 ++ l) order),
      s.4,
    ),
  )

  pub waits_on : (key : ℕ) → has old.order key ≡ true → Looks plain key Waiting plain
  waits_on key h =
      let a = at_has (s.0 ++ old.order) key (has_whole count old old kept_at key h) in
      let late = behind s.0 old.order a.0 key a.1 (front_lacks count old old kept_at key h) in
      (a.0, rw s.3 a.1, omega (arith, s.2, s.4, late), refl)

  module _ (new : LinksView (Unit {0})) (key : ℕ) (updates : Updates old.entries new.entries key None) (order : new.order ≡ without old.order key) where
    -- the keys that stay
    keys_left : (i : ℕ) → slice_get (s.0 ++ old.order) i ≡ Some key → remove plain.keys i ≡ without s.0 key ++ new.order
    keys_left i at =
        ap (λ l. remove l i) s.3 ∙ sym (without_at (s.0 ++ old.order) i key s.1.apart at) ∙ without_append s.0 old.order key ∙ ap (λ l. without s.0 key ++ l) (sym order)

    pub stays_without : get old.entries key ≡ None → StandsAs count new plain
    unfolding kept_gone
    stays_without none =
        let k = kept_gone count old new kept_at key updates order none in
        let lacking : has (s.0 ++ old.order) key ≡ false = s.1.present key ∙ ap is_some none in
        (k.front, k.waits, k.size, s.3 ∙ sym (without_lacks (s.0 ++ old.order) key lacking) ∙ without_append s.0 old.order key ∙ ap (λ l. without s.0 key ++ l) (sym order), s.4)

    -- a granted key goes
    pub granted_goes : is_some (get old.entries key) ≡ true → has old.order key ≡ false
        → (place : ℕ) × (slice_get plain.keys place ≡ Some key) × (place < plain.granted)
        × StandsAs (count - 1) new (record { keys = remove plain.keys place; granted = plain.granted - 1 })
    unfolding kept_taken
    granted_goes h lacks =
        let k = kept_taken count old new kept_at key updates order h lacks in
        let a = at_has (s.0 ++ old.order) key (s.1.present key ∙ h) in
        let early = in_front s.0 old.order a.0 key a.1 lacks in
        (a.0, rw s.3 a.1, omega (arith, s.2, s.4, early), (k.front, k.waits, k.size, keys_left a.0 a.1, ap (λ n. n - 1) s.4))

    -- a key without a grant leaves
    pub linked_leaves : has old.order key ≡ true → (next : WaitList) × Leaves plain key true next × StandsAs count new next
    unfolding kept_left
    linked_leaves h =
        let k = kept_left count old new kept_at key updates order h in
        let a = at_has (s.0 ++ old.order) key (has_whole count old old kept_at key h) in
        let late = behind s.0 old.order a.0 key a.1 (front_lacks count old old kept_at key h) in (
          record plain { keys = remove plain.keys a.0 },
          (a.0, rw s.3 a.1, inl (omega (arith, s.2, s.4, late), refl)),
          (k.front, k.waits, k.size, keys_left a.0 a.1, s.4),
        )

  pub admits_first : (new : LinksView (Unit {0})) (key : ℕ) (rest : List ℕ) → old.order ≡ key ∷ rest → new.order ≡ without old.order key → new.entries ≡ old.entries
      → (next : WaitList) × Admits plain next × StandsAs (count + 1) new next
  admits_first new key rest is order entries =
      let r = admitted s.0 old new s.1 key rest is order entries in (
        record plain { granted = plain.granted + 1 },
        inr (omega (arith, s.4, keys_count count old plain s, ap length is), refl),
        (s.0 ++ key ∷ [], r.2, omega (arith, length-append s.0 (key ∷ []), s.2), s.3 ∙ sym r.1, ap (λ n. n + 1) s.4),
      )

-- ---- what follows of the numbers

-- one fewer waits without a grant, or nobody does
abbrev pub OneGranted : ℕ → ℕ → ℕ → ℕ → Type 0
OneGranted held waits now_held now_wait = ((waits ≡ 0) × (now_wait ≡ 0) × (now_held ≡ held)) ⊎ ((waits ≡ now_wait + 1) × (now_held ≡ held + 1))

granted_by : (old new : WaitList) (held waits now_held now_wait : ℕ) → Admits old new → old.granted ≡ held → length old.keys ≡ held + waits → new.granted ≡ now_held
    → length new.keys ≡ now_held + now_wait → OneGranted held waits now_held now_wait
granted_by old new held waits now_held now_wait admits was all is left = elim admits [
  | inl h ↦ inl (
    omega (arith, h.0, was, all),
    omega (arith, h.0, was, all, is, left, ap (λ (q : WaitList). q.granted) h.1, ap (λ (q : WaitList). length q.keys) h.1),
    omega (arith, was, is, ap (λ (q : WaitList). q.granted) h.1),
  )
  | inr h ↦ inr (
    omega (arith, h.0, was, all, is, left, ap (λ (q : WaitList). q.granted) h.1, ap (λ (q : WaitList). length q.keys) h.1),
    omega (arith, was, is, ap (λ (q : WaitList). q.granted) h.1),
  )
]

pub admits_one : (old new : WaitQueue) → Follows old Admits new → OneGranted (granted old) (ungranted old) (granted new) (ungranted new)
admits_one old new f =
    let p = some_queue old in
    let r = f p.0 p.1 in
    granted_by p.0 r.0 (granted old) (ungranted old) (granted new) (ungranted new) r.1 p.1.4 (keys_count old.granted old.waiters p.0 p.1) r.2.4
    (keys_count new.granted new.waiters r.0 r.2)

pub admits_size : (old new : WaitQueue) → Follows old Admits new → size new ≡ size old
admits_size old new f = elim (admits_one old new f) [ inl n ↦ omega (arith, n.0, n.1, n.2) | inr n ↦ omega (arith, n.0, n.1) ]

one_shorter : (keys : List ℕ) (place key : ℕ) → slice_get keys place ≡ Some key → length keys ≡ length (remove keys place) + 1
one_shorter [] place key at = absurd (cc)
one_shorter (x ∷ keys) zero key at = omega arith
one_shorter (x ∷ keys) (suc place) key at = omega (arith, one_shorter keys place key at)

module _ (old new : WaitQueue) where
  abbrev pub SameSizes : Type 0
  SameSizes = (granted new ≡ granted old) × (ungranted new ≡ ungranted old)

  same_sizes : Follows old (λ p q. q ≡ p) new → SameSizes
  same_sizes f =
      let p = some_queue old in
      let r = f p.0 p.1 in
      let is = ap (λ (q : WaitList). q.granted) r.1 in
      let left = ap (λ (q : WaitList). length q.keys) r.1 in (
        omega (arith, is, p.1.4, r.2.4),
        omega (arith, is, left, p.1.4, r.2.4, keys_count old.granted old.waiters p.0 p.1, keys_count new.granted new.waiters r.0 r.2),
      )

  pub entered_one : (key : ℕ) → Follows old (λ p q. Enters p (Ok key) q) new → (granted new ≡ granted old) × (ungranted new ≡ ungranted old + 1)
  entered_one key f =
      let p = some_queue old in
      let r = f p.0 p.1 in
      let is = ap (λ (q : WaitList). q.granted) r.1.1 in
      let more = ap (λ (q : WaitList). length q.keys) r.1.1 in
      let one = length-append p.0.keys (key ∷ []) in (
        omega (arith, is, p.1.4, r.2.4),
        omega (arith, is, more, one, p.1.4, r.2.4, keys_count old.granted old.waiters p.0 p.1, keys_count new.granted new.waiters r.0 r.2),
      )

  pub entered_none : (error : AllocError) → Follows old (λ p q. Enters p (Err error) q) new → SameSizes
  entered_none error f = same_sizes f

  -- a granted key was seen
  pub saw_one : (key : ℕ) → Follows old (λ p q. Looks p key Granted q) new → (granted old ≡ granted new + 1) × (ungranted new ≡ ungranted old)
  saw_one key f =
      let p = some_queue old in
      let r = f p.0 p.1 in
      let is = ap (λ (q : WaitList). q.granted) r.1.3 in
      let less = ap (λ (q : WaitList). length q.keys) r.1.3 in
      let one = one_shorter p.0.keys r.1.0 key r.1.1 in (
        omega (arith, r.1.2, is, p.1.4, r.2.4),
        omega (arith, r.1.2, is, less, one, p.1.4, r.2.4, keys_count old.granted old.waiters p.0 p.1, keys_count new.granted new.waiters r.0 r.2),
      )

  -- a key waits on, so that somebody waits
  pub saw_waiting : (key : ℕ) → Follows old (λ p q. Looks p key Waiting q) new → (0 < ungranted old) × SameSizes
  saw_waiting key f =
      let p = some_queue old in
      let r = f p.0 p.1 in
      (some p.0 r.1.0 key r.1.1 (omega (arith, r.1.2, p.1.4)) (keys_count old.granted old.waiters p.0 p.1), same_sizes (λ q s. let t = f q s in (t.0, t.1.3, t.2)))
    where
      within : (keys : List ℕ) (place key : ℕ) → slice_get keys place ≡ Some key → place < length keys
      within [] place key at = absurd (cc)
      within (x ∷ keys) zero key at = omega arith
      within (x ∷ keys) (suc place) key at = omega (arith, within keys place key at)

      some : (p : WaitList) (place key : ℕ) → slice_get p.keys place ≡ Some key → granted old ≤ place → length p.keys ≡ granted old + ungranted old → 0 < ungranted old
      some p place key at late all = omega (arith, within p.keys place key at, late, all)

  pub saw_nobody : (key : ℕ) → Follows old (λ p q. Looks p key Unknown q) new → SameSizes
  saw_nobody key f = same_sizes (λ q s. let t = f q s in (t.0, t.1.1, t.2))

  pub left_nobody : (key : ℕ) → Follows old (λ p q. Leaves p key false q) new → SameSizes
  left_nobody key f = same_sizes (λ q s. let t = f q s in (t.0, t.1.1, t.2))

  -- one fewer waits without a grant, or nobody does and one fewer is granted
  pub left_one : (key : ℕ) → Follows old (λ p q. Leaves p key true q) new
      → ((granted new ≡ granted old) × (ungranted old ≡ ungranted new + 1)) ⊎ ((granted old ≡ granted new + 1) × (ungranted old ≡ 0) × (ungranted new ≡ 0))
  left_one key f =
      let p = some_queue old in
      let r = f p.0 p.1 in
      let one = one_shorter p.0.keys r.1.0 key r.1.1 in
      let all = keys_count old.granted old.waiters p.0 p.1 in
      let left = keys_count new.granted new.waiters r.0 r.2 in
      elim r.1.2 [
        | inl h ↦ inl (
          omega (arith, ap (λ (q : WaitList). q.granted) h.1, p.1.4, r.2.4),
          omega (arith, ap (λ (q : WaitList). q.granted) h.1, ap (λ (q : WaitList). length q.keys) h.1, one, all, left, p.1.4, r.2.4),
        )
        | inr h ↦ elim (granted_by (record { keys = remove p.0.keys r.1.0; granted = p.0.granted - 1 }) r.0 (granted old - 1) (ungranted old) (granted new) (ungranted new) h.1
            (ap (λ n. n - 1) p.1.4) (omega (arith, h.0, p.1.4, one, all)) r.2.4 left) [
              | inl g ↦ inr (omega (arith, h.0, p.1.4, g.2), g.0, g.1)
              | inr g ↦ inl (omega (arith, h.0, p.1.4, g.1), g.0)
            ]
      ]

  pub left_size : (key : ℕ) (result : Bool) → Follows old (λ p q. Leaves p key result q) new → size new ≤ size old
  left_size key true f = elim (left_one key f) [ inl n ↦ omega (arith, n.0, n.1) | inr n ↦ omega (arith, n.0, n.1, n.2) ]
  left_size key false f = let n = left_nobody key f in omega (arith, n.0, n.1)

  pub entered_size : (result : Result ℕ AllocError) → Follows old (λ p q. Enters p result q) new → size new ≤ size old + 1
  entered_size (Ok key) f = let n = entered_one key f in omega (arith, n.0, n.1)
  entered_size (Err error) f = let n = entered_none error f in omega (arith, n.0, n.1)

-- nobody waits in an empty queue
pub empty_sizes : (queue : WaitQueue) → StandsFor queue empty → (granted queue ≡ 0) × (ungranted queue ≡ 0)
empty_sizes queue s = (sym s.4, omega (arith, s.4, keys_count queue.granted queue.waiters empty s))

-- ---- what an answer tells

pub full_room : (size capacity : ℕ) → (size + 1 ≤ capacity → false ≡ true) → capacity ≤ size
full_room size capacity refused = elim (cases_order size capacity) [
  | inl same ↦ omega (arith, same)
  | inr other ↦ elim other [ inl before ↦ absurd (cc (refused (omega (arith, before)))) | inr after ↦ omega (arith, after) ]
]

pub absent_lacks : (waiters : LinksView (Unit {0})) (key : ℕ) → IsPresent waiters → get waiters.entries key ≡ None → has waiters.order key ≡ false
absent_lacks waiters key present none = elim (cases_has waiters.order key) [
  | inl h ↦ absurd (cc (sym (present key h) ∙ ap is_some none))
  | inr lacks ↦ lacks
]

pub count_some : (count : ℕ) (old : LinksView (Unit {0})) → Kept count old → (key : ℕ) → is_some (get old.entries key) ≡ true → has old.order key ≡ false → 1 ≤ count
count_some count old k key h lacks = omega (arith, has_some k.front key (front_has count old old k key h lacks), k.size)
