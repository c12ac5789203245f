-- The messages that are kept under their ids, among all that were sent.
use Rattle.std.proofs.Common.{◌≡◌, ◌≢◌, ◌⊎◌, ℕ, ◌<◌, zero, suc, Bool, true, false, ◌||◌, if◌then◌else◌, List, [], ◌∷◌, ◌++◌, length, Option, Some, None, is_some, slice_get, slice_index_or, slice_set, refl, sym, ap, subst, ◌∙◌, inl, inr, arith}
use Rattle.std.proofs.lemmas.Bool.Decides.{eqb_tells}
use Rattle.slab.specs.Slab.{get, Updates}
use Rattle.tower_base.specs.Links.{LinksView}
use Rattle.tower_base.specs.Order.{has, without}
use Rattle.tower_buffer.specs.Messages.{Fits, is_queued}
use Rattle.tower_buffer.specs.Mail.{At, Entry, SentMessage, NoneQueued, NoneWith, OldestAt}
use Rattle.tower_buffer.specs.MessageSteps.{Holds, known, kept, queue}
use Rattle.tower_latch.specs.Waiters.{are_apart}
use Rattle.tower_buffer.specs.declared.buffer.message.Fate.{Fate}
use Rattle.tower_buffer.specs.declared.buffer.message.Fate.TheVariants.{Open}
use Rattle.tower_buffer.specs.declared.buffer.message.Message.{Message}
use Rattle.tower_buffer.specs.declared.buffer.messages.Messages.{Messages}
use Rattle.tower_buffer.proofs.Fates.{not_none, not_some, some_is}
use Rattle.tower_latch.proofs.KeysLemmas.{apart_is, apart_push, apart_without, has_append, has_without_other, has_without_same, is_apart}

module _ {X : Type 0} where
  -- ---- places of a list

  pub set_same : (xs : List X) (i : ℕ) (x y : X) → slice_get xs i ≡ Some y → slice_get (slice_set xs i x) i ≡ Some x
  set_same [] i x y at = absurd (cc)
  set_same (z ∷ xs) zero x y at = refl
  set_same (z ∷ xs) (suc i) x y at = set_same xs i x y at

  pub set_other : (xs : List X) (i k : ℕ) (x : X) → k ≢ i → slice_get (slice_set xs i x) k ≡ slice_get xs k
  set_other [] i k x ne = refl
  set_other (z ∷ xs) zero zero x ne = absurd (ne refl)
  set_other (z ∷ xs) zero (suc k) x ne = refl
  set_other (z ∷ xs) (suc i) zero x ne = refl
  set_other (z ∷ xs) (suc i) (suc k) x ne = set_other xs i k x (λ e. ne (ap suc e))

  at_last : (xs : List X) (x y : X) (i : ℕ) → slice_get (xs ++ x ∷ []) i ≡ Some y → (slice_get xs i ≡ Some y) ⊎ ((i ≡ length xs) × (x ≡ y))
  at_last [] x y zero at = inr (refl, some_is x y at)
  at_last [] x y (suc i) at = absurd (cc)
  at_last (z ∷ xs) x y zero at = inl at
  at_last (z ∷ xs) x y (suc i) at = elim (at_last xs x y i at) [ inl h ↦ inl h | inr h ↦ inr (ap suc h.0, h.1) ]

  last_at : (xs : List X) (x : X) → slice_get (xs ++ x ∷ []) (length xs) ≡ Some x
  last_at [] x = refl
  last_at (z ∷ xs) x = last_at xs x

  pub front_at : (xs : List X) (x y : X) (i : ℕ) → slice_get xs i ≡ Some y → slice_get (xs ++ x ∷ []) i ≡ Some y
  front_at [] x y i at = absurd (cc)
  front_at (z ∷ xs) x y zero at = at
  front_at (z ∷ xs) x y (suc i) at = front_at xs x y i at

  low : (xs : List X) (i : ℕ) (y : X) → slice_get xs i ≡ Some y → i < length xs
  low [] i y at = absurd (cc)
  low (z ∷ xs) zero y at = omega arith
  low (z ∷ xs) (suc i) y at = let r = low xs i y at in omega arith

abbrev ahead : Bool → ℕ → List ℕ → List ℕ
ahead b id rest = if b then id ∷ rest else rest

ahead_last : (b : Bool) (id : ℕ) (more rest end : List ℕ) → more ≡ rest ++ end → ahead b id more ≡ ahead b id rest ++ end
ahead_last true id more rest end e = ap (λ l. id ∷ l) e
ahead_last false id more rest end e = e

module _ {Q F : Type 0} where
  pub here_is : (a b : SentMessage Q F) → Some (Entry.here a) ≡ Some (Entry.here b) → a ≡ b
  here_is a b e = ap (λ (o : Option (Entry Q F)). elim o [ None ↦ a | Some x ↦ elim x [ Entry.here l ↦ l | Entry.gone fate ↦ a ] ]) e

  pub not_here : (fate : Fate F) (b : SentMessage Q F) → Some (Entry.gone fate) ≡ Some (Entry.here b) → ⊥
  not_here fate b e = cc

  pub known_is : (now : SentMessage Q F) (id : ℕ) (message : Message Q F) → now.id ≡ id → kept now ≡ message → now ≡ known id message
  known_is now id message is same = ap (λ (i : ℕ). known i (kept now)) is ∙ ap (λ (m : Message Q F). known id m) same

  -- ---- the order of the queued

  pub queue_last : (messages : List (Entry Q F)) (id : ℕ) (request : Q) (fate : Fate F)
      → queue (messages ++ Entry.here (record { id = id; request = Some request; fate = fate }) ∷ []) ≡ queue messages ++ id ∷ []
  queue_last [] id request fate = refl
  queue_last (Entry.gone other ∷ rest) id request fate = queue_last rest id request fate
  queue_last (Entry.here item ∷ rest) id request fate = ahead_last (is_some item.request) item.id _ (queue rest) (id ∷ []) (queue_last rest id request fate)

  pub queue_same : (messages : List (Entry Q F)) (place : ℕ) (item now : SentMessage Q F) → At messages place item → now.id ≡ item.id → is_some now.request ≡ is_some item.request
      → queue (slice_set messages place (Entry.here now)) ≡ queue messages
  queue_same [] place item now at is some = absurd (cc)
  queue_same (first ∷ rest) zero item now at is some =
      let e : first ≡ Entry.here item = some_is first (Entry.here item) at in
      ap (λ b. ahead b now.id (queue rest)) some ∙ ap (λ i. ahead (is_some item.request) i (queue rest)) is ∙ sym (ap (λ (x : Entry Q F). queue (x ∷ rest)) e)
  queue_same (Entry.gone fate ∷ rest) (suc place) item now at is some = queue_same rest place item now at is some
  queue_same (Entry.here first ∷ rest) (suc place) item now at is some = ap (ahead (is_some first.request) first.id) (queue_same rest place item now at is some)

  pub queue_gone : (messages : List (Entry Q F)) (place : ℕ) (item : SentMessage Q F) (fate : Fate F) → At messages place item → item.request ≡ None
      → queue (slice_set messages place (Entry.gone fate)) ≡ queue messages
  queue_gone [] place item fate at out = absurd (cc)
  queue_gone (first ∷ rest) zero item fate at out =
      let e : first ≡ Entry.here item = some_is first (Entry.here item) at in
      sym (ap (λ (x : Entry Q F). queue (x ∷ rest)) e ∙ ap (λ (r : Option Q). ahead (is_some r) item.id (queue rest)) out)
  queue_gone (Entry.gone other ∷ rest) (suc place) item fate at out = queue_gone rest place item fate at out
  queue_gone (Entry.here first ∷ rest) (suc place) item fate at out = ap (ahead (is_some first.request) first.id) (queue_gone rest place item fate at out)

  -- the oldest leaves the queue
  pub queue_first : (messages : List (Entry Q F)) (place : ℕ) (item : SentMessage Q F) (request : Q) (now : Entry Q F) → OldestAt messages place item request
      → ((rest : List (Entry Q F)) → queue (now ∷ rest) ≡ queue rest) → queue messages ≡ item.id ∷ queue (slice_set messages place now)
  queue_first [] place item request now o skip = absurd (let at = o.0 in cc)
  queue_first (first ∷ rest) zero item request now o skip =
      let e : first ≡ Entry.here item = some_is first (Entry.here item) o.0 in
      ap (λ (x : Entry Q F). queue (x ∷ rest)) e ∙ ap (λ (r : Option Q). ahead (is_some r) item.id (queue rest)) o.1 ∙ ap (λ l. item.id ∷ l) (sym (skip rest))
  queue_first (Entry.gone fate ∷ rest) (suc place) item request now o skip =
      queue_first rest place item request now (o.0, o.1, (λ k other below at. o.2 (suc k) other (omega (arith, below)) at)) skip
  queue_first (Entry.here first ∷ rest) (suc place) item request now o skip =
      let none : first.request ≡ None = o.2 0 first (omega arith) refl in
      let more = queue_first rest place item request now (o.0, o.1, (λ k other below at. o.2 (suc k) other (omega (arith, below)) at)) skip in
      let pass : (l : List ℕ) → ahead (is_some first.request) first.id l ≡ l = λ l. ap (λ (r : Option Q). ahead (is_some r) first.id l) none in
      pass (queue rest) ∙ more ∙ ap (λ l. item.id ∷ l) (sym (pass (queue (slice_set rest place now))))

  -- the first in the order is the oldest
  pub record IsOldest (messages : List (Entry Q F)) (id : ℕ) : Type 0 where
    pub place : ℕ
    pub item : SentMessage Q F
    pub request : Q
    pub oldest : OldestAt messages place item request
    pub is : item.id ≡ id

  later : (first : Entry Q F) (messages : List (Entry Q F)) (id : ℕ) → ((other : SentMessage Q F) → first ≡ Entry.here other → other.request ≡ None)
      → IsOldest messages id → IsOldest (first ∷ messages) id
  later first messages id none r = record {
    place = suc r.place;
    item = r.item;
    request = r.request;
    oldest = (r.oldest.0, r.oldest.1, λ k other below at. before k other below at);
    is = r.is;
  }
    where
      before : (k : ℕ) (other : SentMessage Q F) → k < suc r.place → At (first ∷ messages) k other → other.request ≡ None
      before zero other below at = none other (some_is first (Entry.here other) at)
      before (suc k) other below at = r.oldest.2 k other (omega (arith, below)) at

  pub first_queued : (messages : List (Entry Q F)) (id : ℕ) (rest : List ℕ) → queue messages ≡ id ∷ rest → IsOldest messages id
  first_queued [] id rest e = absurd (cc)
  first_queued (Entry.gone fate ∷ messages) id rest e = later (Entry.gone fate) messages id (λ other h. absurd (not_here fate other (ap Some h))) (first_queued messages id rest e)
  first_queued (Entry.here item ∷ messages) id rest e = by (first_queued messages id rest) item.request refl
    where
      by : (queue messages ≡ id ∷ rest → IsOldest messages id) → (request : Option Q) → item.request ≡ request → IsOldest (Entry.here item ∷ messages) id
      by next None out = later (Entry.here item) messages id (λ other h. sym (ap (λ (l : SentMessage Q F). l.request) (here_is item other (ap Some h))) ∙ out)
          (next (sym (ap (λ (r : Option Q). ahead (is_some r) item.id (queue messages)) out) ∙ e))
      by next (Some request) in_it =
          let same : item.id ∷ queue messages ≡ id ∷ rest = sym (ap (λ (r : Option Q). ahead (is_some r) item.id (queue messages)) in_it) ∙ e in record {
            place = 0;
            item = item;
            request = request;
            oldest = (refl, in_it, λ k other below at. absurd (omega (arith, below)));
            is = ap (λ (l : List ℕ). elim l [ [] ↦ id | x ∷ xs ↦ x ]) same;
          }

  -- nothing is in the order
  pub none_queued : (messages : List (Entry Q F)) → queue messages ≡ [] → NoneQueued messages
  none_queued [] e place item at = absurd (cc)
  none_queued (Entry.gone fate ∷ messages) e zero item at = absurd (not_here fate item at)
  none_queued (Entry.gone fate ∷ messages) e (suc place) item at = none_queued messages e place item at
  none_queued (Entry.here first ∷ messages) e place item at = by (none_queued messages) (is_some first.request) refl place at
    where
      by : (queue messages ≡ [] → NoneQueued messages) → (b : Bool) → is_some first.request ≡ b → (place : ℕ) → At (Entry.here first ∷ messages) place item → item.request ≡ None
      by next true is spot there = absurd (cc (sym (ap (λ b. ahead b first.id (queue messages)) is) ∙ e))
      by next false is zero there = sym (ap (λ (l : SentMessage Q F). l.request) (here_is first item there)) ∙ not_some first.request is
      by next false is (suc spot) there = next (sym (ap (λ b. ahead b first.id (queue messages)) is) ∙ e) spot item there

  pub empty_queue : (messages : List (Entry Q F)) → NoneQueued messages → queue messages ≡ []
  empty_queue [] none = refl
  empty_queue (Entry.gone fate ∷ messages) none = empty_queue messages (λ place item at. none (suc place) item at)
  empty_queue (Entry.here first ∷ messages) none =
      ap (λ (r : Option Q). ahead (is_some r) first.id (queue messages)) (none 0 first refl) ∙ empty_queue messages (λ place item at. none (suc place) item at)

  -- ---- what is kept, before and after a change

  pub holds_none : (links : LinksView (Message Q F)) → links.order ≡ [] → links.entries.slots ≡ [] → Holds links []
  holds_none links order slots = record {
    stands = λ place item at. absurd (cc);
    sent = λ id message there. absurd (not_none message (sym there ∙ ap (λ (l : List (Option (Message Q F))). slice_index_or l id None) slots));
    once = λ place other item another at also same. absurd (cc);
    order = order;
  }

  pub holds_as : (old new : LinksView (Message Q F)) (messages : List (Entry Q F)) → new.order ≡ old.order → ((id : ℕ) → get new.entries id ≡ get old.entries id)
      → Holds old messages → Holds new messages
  holds_as old new messages order same h = record {
    stands = λ place item at. same item.id ∙ h.stands place item at;
    sent = λ id message there. h.sent id message (sym (same id) ∙ there);
    once = h.once;
    order = order ∙ h.order;
  }

  pub none_with : (old : LinksView (Message Q F)) (messages : List (Entry Q F)) (id : ℕ) (P : SentMessage Q F → Type 0) → Holds old messages
      → ((item : SentMessage Q F) → get old.entries id ≡ Some (kept item) → ¬ (P item)) → NoneWith P messages id
  none_with old messages id P h not place item at is = not item (ap (get old.entries) (sym is) ∙ h.stands place item at)

  module _ (old new : LinksView (Message Q F)) (messages : List (Entry Q F)) (h : Holds old messages) where
    module _ (place : ℕ) (item : SentMessage Q F) (at : At messages place item) where
      elsewhere : (spot : ℕ) (other : SentMessage Q F) (slot : Option (Message Q F)) → spot ≢ place → At messages spot other → Updates old.entries new.entries item.id slot
          → get new.entries other.id ≡ Some (kept other)
      elsewhere spot other slot ne was updates = updates.others other.id (λ e. ne (h.once spot place other item was at e)) ∙ h.stands spot other was

      still : (now : Entry Q F) (id : ℕ) (message : Message Q F) (slot : Option (Message Q F)) → id ≢ item.id → Updates old.entries new.entries item.id slot
          → get new.entries id ≡ Some message → (spot : ℕ) × At (slice_set messages place now) spot (known id message)
      still now id message slot ne updates there =
          let r = h.sent id message (sym (updates.others id ne) ∙ there) in
          (r.0, set_other messages place r.0 now (λ e. ne (ap (λ (l : SentMessage Q F). l.id) (here_is (known id message) item (sym (subst (λ (k : ℕ). At messages k (known id message)) e r.1) ∙ at)))) ∙ r.1)

      pub holds_changed : (now : SentMessage Q F) → now.id ≡ item.id → Updates old.entries new.entries item.id (Some (kept now)) → new.order ≡ queue (slice_set messages place (Entry.here now))
          → Holds new (slice_set messages place (Entry.here now))
      holds_changed now is updates order = record {
        stands = λ spot other there. elim (eqb_tells spot place) [
          | inl same ↦ subst (λ (l : SentMessage Q F). get new.entries l.id ≡ Some (kept l)) (is_now spot other same.1 there) (ap (get new.entries) is ∙ updates.changed)
          | inr differs ↦ elsewhere spot other (Some (kept now)) differs.1 (sym (set_other messages place spot (Entry.here now) differs.1) ∙ there) updates
        ];
        sent = λ id message there. elim (eqb_tells id item.id) [
          | inl same ↦ (
            place,
            set_same messages place (Entry.here now) (Entry.here item) at
                ∙ ap (λ (l : SentMessage Q F). Some (Entry.here l)) (known_is now id message (is ∙ sym same.1) (some_is (kept now) message (sym updates.changed ∙ sym (ap (get new.entries) same.1) ∙ there))),
          )
          | inr differs ↦ still (Entry.here now) id message (Some (kept now)) differs.1 updates there
        ];
        once = λ spot other one two first second same.
            let a = was spot one first in
            let b = was other two second in
            h.once spot other a.0 b.0 a.1 b.1 (a.2 ∙ same ∙ sym b.2);
        order = order;
      }
        where
          is_now : (spot : ℕ) (other : SentMessage Q F) → spot ≡ place → At (slice_set messages place (Entry.here now)) spot other → now ≡ other
          is_now spot other same there =
              here_is now other (sym (set_same messages place (Entry.here now) (Entry.here item) at) ∙ subst (λ (k : ℕ). At (slice_set messages place (Entry.here now)) k other) same there)

          was : (spot : ℕ) (other : SentMessage Q F) → At (slice_set messages place (Entry.here now)) spot other → (one : SentMessage Q F) × At messages spot one × (one.id ≡ other.id)
          was spot other there = elim (eqb_tells spot place) [
            | inl same ↦ (item, subst (λ (k : ℕ). At messages k item) (sym same.1) at, sym is ∙ ap (λ (l : SentMessage Q F). l.id) (is_now spot other same.1 there))
            | inr differs ↦ (other, sym (set_other messages place spot (Entry.here now) differs.1) ∙ there, refl)
          ]

      pub holds_gone : (fate : Fate F) → Updates old.entries new.entries item.id None → new.order ≡ queue (slice_set messages place (Entry.gone fate))
          → Holds new (slice_set messages place (Entry.gone fate))
      holds_gone fate updates order = record {
        stands = λ spot other there. let w = was spot other there in elsewhere spot other None w.0 w.1 updates;
        sent = λ id message there. elim (eqb_tells id item.id) [
          | inl same ↦ absurd (not_none message (sym there ∙ ap (get new.entries) same.1 ∙ updates.changed))
          | inr differs ↦ still (Entry.gone fate) id message None differs.1 updates there
        ];
        once = λ spot other one two first second same. h.once spot other one two (was spot one first).1 (was other two second).1 same;
        order = order;
      }
        where
          was : (spot : ℕ) (other : SentMessage Q F) → At (slice_set messages place (Entry.gone fate)) spot other → (spot ≢ place) × At messages spot other
          was spot other there = elim (eqb_tells spot place) [
            | inl same ↦ absurd (not_here fate other
                (sym (set_same messages place (Entry.gone fate) (Entry.here item) at) ∙ subst (λ (k : ℕ). At (slice_set messages place (Entry.gone fate)) k other) same.1 there))
            | inr differs ↦ (differs.1, sym (set_other messages place spot (Entry.gone fate) differs.1) ∙ there)
          ]

    -- one more is sent
    pub holds_pushed : (id : ℕ) (request : Q) → get old.entries id ≡ None → Updates old.entries new.entries id (Some (record { request = Some request; fate = Open }))
        → new.order ≡ old.order ++ id ∷ [] → Holds new (messages ++ Entry.here (record { id = id; request = Some request; fate = Open }) ∷ [])
    holds_pushed id request vacant updates order = record {
      stands = λ place item at. elim (at_last messages (Entry.here now) (Entry.here item) place at) [
        | inl was ↦ updates.others item.id (fresh place item was) ∙ h.stands place item was
        | inr last ↦ subst (λ (l : SentMessage Q F). get new.entries l.id ≡ Some (kept l)) (here_is now item (ap Some last.1)) updates.changed
      ];
      sent = λ other message there. elim (eqb_tells other id) [
        | inl same ↦ (
          length messages,
          last_at messages (Entry.here now)
              ∙ ap (λ (l : SentMessage Q F). Some (Entry.here l)) (known_is now other message (sym same.1) (some_is (kept now) message (sym updates.changed ∙ sym (ap (get new.entries) same.1) ∙ there))),
        )
        | inr differs ↦ let r = h.sent other message (sym (updates.others other differs.1) ∙ there) in (r.0, front_at messages (Entry.here now) (Entry.here (known other message)) r.0 r.1)
      ];
      once = λ place other one two first second same. elim (at_last messages (Entry.here now) (Entry.here one) place first) [
        | inl a ↦ elim (at_last messages (Entry.here now) (Entry.here two) other second) [
          | inl b ↦ h.once place other one two a b same
          | inr b ↦ absurd (fresh place one a (same ∙ sym (ap (λ (l : SentMessage Q F). l.id) (here_is now two (ap Some b.1)))))
        ]
        | inr a ↦ elim (at_last messages (Entry.here now) (Entry.here two) other second) [
          | inl b ↦ absurd (fresh other two b (sym same ∙ sym (ap (λ (l : SentMessage Q F). l.id) (here_is now one (ap Some a.1)))))
          | inr b ↦ a.0 ∙ sym b.0
        ]
      ];
      order = order ∙ ap (λ l. l ++ id ∷ []) h.order ∙ sym (queue_last messages id request Open);
    }
      where
        now : SentMessage Q F
        now = record { id = id; request = Some request; fate = Open }

        fresh : (place : ℕ) (item : SentMessage Q F) → At messages place item → item.id ≢ id
        fresh place item at is = not_none (kept item) (sym (h.stands place item at) ∙ ap (get old.entries) is ∙ vacant)

-- ---- the fields that say what is kept

pub record Sorted {Q F E : Type 0} (stored : Option E) (links : LinksView (Message Q F)) : Type 0 where
  pub differ : are_apart links.order ≡ true
  pub linked : (id : ℕ) → has links.order id ≡ is_queued (get links.entries id)
  pub sent : (id : ℕ) (message : Message Q F) → get links.entries id ≡ Some message → Fits stored message

-- where there is one, it fits
abbrev pub FitsIf : {Q F E : Type 0} → Option E → Option (Message Q F) → Type 0
FitsIf {Q} {F} stored slot = (message : Message Q F) → slot ≡ Some message → Fits stored message

pub sorted_of : {Q F E : Type 0} (messages : Messages Q F E) → Sorted messages.stored messages.links
sorted_of messages = record { differ = messages.differ; linked = messages.linked; sent = messages.sent }

module _ {Q F E : Type 0} (stored : Option E) (old new : LinksView (Message Q F)) (s : Sorted stored old) where
  pub sorted_as : new.order ≡ old.order → ((id : ℕ) → get new.entries id ≡ get old.entries id) → Sorted stored new
  sorted_as order same = record {
    differ = ap are_apart order ∙ s.differ;
    linked = λ id. ap (λ l. has l id) order ∙ s.linked id ∙ ap is_queued (sym (same id));
    sent = λ id message there. s.sent id message (sym (same id) ∙ there);
  }

  fits_now : (id : ℕ) (slot : Option (Message Q F)) → Updates old.entries new.entries id slot → FitsIf stored slot → (other : ℕ) → FitsIf stored (get new.entries other)
  fits_now id slot updates fits other message there = elim (eqb_tells other id) [
    | inl same ↦ fits message (sym updates.changed ∙ sym (ap (get new.entries) same.1) ∙ there)
    | inr differs ↦ s.sent other message (sym (updates.others other differs.1) ∙ there)
  ]

  pub sorted_changed : (id : ℕ) (slot : Option (Message Q F)) → Updates old.entries new.entries id slot → new.order ≡ old.order → is_queued slot ≡ is_queued (get old.entries id) → FitsIf stored slot
      → Sorted stored new
  sorted_changed id slot updates order same fits = record {
    differ = ap are_apart order ∙ s.differ;
    linked = λ other. ap (λ l. has l other) order ∙ s.linked other ∙ (elim (eqb_tells other id) [
      | inl is ↦ ap (λ k. is_queued (get old.entries k)) is.1 ∙ sym same ∙ sym (ap is_queued (ap (get new.entries) is.1 ∙ updates.changed))
      | inr differs ↦ ap is_queued (sym (updates.others other differs.1))
    ]);
    sent = fits_now id slot updates fits;
  }

  -- one isn't queued any more
  pub sorted_left : (id : ℕ) (slot : Option (Message Q F)) → Updates old.entries new.entries id slot → new.order ≡ without old.order id → is_queued slot ≡ false → FitsIf stored slot → Sorted stored new
  sorted_left id slot updates order out fits = record {
    differ = ap are_apart order ∙ is_apart (without old.order id) (apart_without old.order id (apart_is old.order s.differ));
    linked = λ other. ap (λ l. has l other) order ∙ (elim (eqb_tells other id) [
      | inl is ↦ ap (has (without old.order id)) is.1 ∙ has_without_same old.order id ∙ sym (ap is_queued (ap (get new.entries) is.1 ∙ updates.changed) ∙ out)
      | inr differs ↦ has_without_other old.order id other differs.0 ∙ s.linked other ∙ ap is_queued (sym (updates.others other differs.1))
    ]);
    sent = fits_now id slot updates fits;
  }

  pub sorted_pushed : (id : ℕ) (request : Q) → get old.entries id ≡ None → Updates old.entries new.entries id (Some (record { request = Some request; fate = Open })) → new.order ≡ old.order ++ id ∷ []
      → Sorted stored new
  sorted_pushed id request vacant updates order = record {
    differ = ap are_apart order ∙ is_apart (old.order ++ id ∷ []) (apart_push old.order id (apart_is old.order s.differ) (s.linked id ∙ ap is_queued vacant));
    linked = λ other. ap (λ l. has l other) order ∙ has_append old.order (id ∷ []) other ∙ (elim (eqb_tells other id) [
      | inl is ↦ ap (λ b. has old.order other || (b || false)) is.0 ∙ or_true (has old.order other) ∙ sym (ap is_queued (ap (get new.entries) is.1 ∙ updates.changed))
      | inr differs ↦ ap (λ b. has old.order other || (b || false)) differs.0 ∙ or_false (has old.order other) ∙ s.linked other ∙ ap is_queued (sym (updates.others other differs.1))
    ]);
    sent = fits_now id (Some now) updates (λ message is.
        let e = some_is now message is in
        subst (λ (m : Message Q F). Fits stored m) e ((λ failed. absurd (cc)), (λ settled. absurd (cc))));
  }
    where
      now : Message Q F
      now = record { request = Some request; fate = Open }

      or_true : (a : Bool) → a || (true || false) ≡ true
      or_true false = refl
      or_true true = refl

      or_false : (a : Bool) → a || (false || false) ≡ a
      or_false false = refl
      or_false true = refl
