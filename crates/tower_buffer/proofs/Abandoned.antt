-- What is kept once the worker is gone.
use Rattle.std.proofs.Common.{◌≡◌, ℕ, ◌+◌, ◌<◌, ◌≤◌, inl, inr, slice_index_or, zero, suc, Bool, true, false, if◌then◌else◌, List, [], ◌∷◌, length, Option, Some, None, is_some, slice_get, refl, sym, ap, subst, ◌∙◌, arith}
use Rattle.std.proofs.lemmas.Bool.Decides.{eqb_tells}
use Rattle.std.proofs.lemmas.Bool.{cases_order}
use Rattle.slab.specs.Slab.{Updates, get, slab_len}
use Rattle.tower_base.specs.Links.{LinksView}
use Rattle.tower_base.specs.Order.{has, without}
use Rattle.tower_buffer.specs.Messages.{Fits, is_queued, is_unsettled, lost, lost_by}
use Rattle.tower_buffer.specs.Mail.{At, Entry, SentMessage, abandoned, left_by, queued}
use Rattle.tower_buffer.specs.MessageSteps.{Holds, kept, known, queue}
use Rattle.tower_buffer.specs.declared.buffer.message.Fate.{Fate}
use Rattle.tower_buffer.specs.declared.buffer.message.Fate.TheVariants.{Open, Answered, Failed, Cancelled, Lost}
use Rattle.tower_buffer.specs.declared.buffer.message.Message.{Message}
use Rattle.tower_buffer.proofs.Fates.{some_is}
use Rattle.tower_latch.proofs.KeysLemmas.{has_first, has_without_other, has_without_same, not_both}
use Rattle.tower_buffer.proofs.Messages.{Sorted, empty_queue, here_is, not_here, sorted_left}

-- a list that has no key is empty
pub no_keys : (keys : List ℕ) → ((key : ℕ) → has keys key ≡ false) → keys ≡ []
no_keys [] none = refl
no_keys (key ∷ keys) none = absurd (not_both (has (key ∷ keys) key) (has_first key keys) (none key))

module _ {Q F : Type 0} where
  -- as many are queued among all
  pub queued_length : (messages : List (Entry Q F)) → queued messages ≡ length (queue messages)
  queued_length [] = refl
  queued_length (Entry.gone fate ∷ messages) = queued_length messages
  queued_length (Entry.here item ∷ messages) = by (is_some item.request) (queued_length messages)
    where
      by : (b : Bool) → queued messages ≡ length (queue messages) → (if b then 1 else 0) + queued messages ≡ length (if b then item.id ∷ queue messages else queue messages)
      by true e = omega (arith, e)
      by false e = omega (arith, e)

  -- one of the messages, before and after
  left_at : (messages : List (Entry Q F)) (place : ℕ) (was : SentMessage Q F) → At messages place was → slice_get (abandoned messages) place ≡ Some (left_by was was.fate)
  left_at [] place was at = absurd (cc)
  left_at (Entry.gone fate ∷ messages) zero was at = absurd (not_here fate was at)
  left_at (Entry.gone fate ∷ messages) (suc place) was at = left_at messages place was at
  left_at (Entry.here first ∷ messages) zero was at = ap (λ (l : SentMessage Q F). Some (left_by l l.fate)) (here_is first was at)
  left_at (Entry.here first ∷ messages) (suc place) was at = left_at messages place was at

  pub record WasAt (messages : List (Entry Q F)) (place : ℕ) (item : SentMessage Q F) : Type 0 where
    pub was : SentMessage Q F
    pub at : At messages place was
    pub left : left_by was was.fate ≡ Entry.here item

  was_at : (messages : List (Entry Q F)) (place : ℕ) (item : SentMessage Q F) → At (abandoned messages) place item → WasAt messages place item
  was_at [] place item at = absurd (cc)
  was_at (Entry.gone fate ∷ messages) zero item at = absurd (not_here fate item at)
  was_at (Entry.gone fate ∷ messages) (suc place) item at = let r = was_at messages place item at in record { was = r.was; at = r.at; left = r.left }
  was_at (Entry.here first ∷ messages) zero item at = record { was = first; at = refl; left = some_is (left_by first first.fate) (Entry.here item) at }
  was_at (Entry.here first ∷ messages) (suc place) item at = let r = was_at messages place item at in record { was = r.was; at = r.at; left = r.left }

  same_here : (a b : SentMessage Q F) → Entry.here a ≡ Entry.here b → (a.id ≡ b.id) × (Some (kept a) ≡ Some (kept b))
  same_here a b e = let s = here_is a b (ap Some e) in (ap (λ (l : SentMessage Q F). l.id) s, ap (λ (l : SentMessage Q F). Some (kept l)) s)

  left_tells : (was item : SentMessage Q F) (fate : Fate F) → left_by was fate ≡ Entry.here item → (was.id ≡ item.id) × (lost_by (kept was) fate ≡ Some (kept item))
  left_tells was item Open e = same_here (record { id = was.id; request = None; fate = Lost }) item e
  left_tells was item Cancelled e = absurd (not_here Cancelled item (ap Some e))
  left_tells was item (Answered f) e = same_here was item e
  left_tells was item Failed e = same_here was item e
  left_tells was item Lost e = same_here was item e

  lost_tells : (id : ℕ) (was message : Message Q F) (fate : Fate F) → lost_by was fate ≡ Some message → left_by (known id was) fate ≡ Entry.here (known id message)
  lost_tells id was message Open e = ap (λ (m : Message Q F). Entry.here (known id m)) (some_is (record { request = None; fate = Lost }) message e)
  lost_tells id was message Cancelled e = absurd (cc)
  lost_tells id was message (Answered f) e = ap (λ (m : Message Q F). Entry.here (known id m)) (some_is was message e)
  lost_tells id was message Failed e = ap (λ (m : Message Q F). Entry.here (known id m)) (some_is was message e)
  lost_tells id was message Lost e = ap (λ (m : Message Q F). Entry.here (known id m)) (some_is was message e)

  out_of_it : (was : Message Q F) (fate : Fate F) (message : Message Q F) → lost_by was fate ≡ Some message → (is_unsettled fate ≡ false → was.request ≡ None) → message.request ≡ None
  out_of_it was Open message e out = sym (ap (λ (m : Message Q F). m.request) (some_is (record { request = None; fate = Lost }) message e))
  out_of_it was Cancelled message e out = absurd (cc)
  out_of_it was (Answered f) message e out = sym (ap (λ (m : Message Q F). m.request) (some_is was message e)) ∙ out refl
  out_of_it was Failed message e out = sym (ap (λ (m : Message Q F). m.request) (some_is was message e)) ∙ out refl
  out_of_it was Lost message e out = sym (ap (λ (m : Message Q F). m.request) (some_is was message e)) ∙ out refl

beyond : {T : Type 0} (slots : List (Option T)) (key : ℕ) → length slots ≤ key → slice_index_or slots key None ≡ None
beyond [] key le = refl
beyond (slot ∷ slots) zero le = absurd (omega arith)
beyond (slot ∷ slots) (suc key) le = beyond slots key (omega arith)

-- the first so many were walked over
pub record Walked {Q F : Type 0} (old new : LinksView (Message Q F)) (n : ℕ) : Type 0 where
  pub past : (id : ℕ) → id < n → get new.entries id ≡ lost (get old.entries id)
  pub ahead : (id : ℕ) → n ≤ id → get new.entries id ≡ get old.entries id
  pub out : (id : ℕ) → id < n → has new.order id ≡ false
  pub still : (id : ℕ) → n ≤ id → has new.order id ≡ has old.order id
  pub len : slab_len new.entries ≤ slab_len old.entries
  pub capacity : new.entries.capacity ≡ old.entries.capacity

module _ {Q F : Type 0} (old : LinksView (Message Q F)) where
  pub walked_none : Walked old old 0
  walked_none = record {
    past = λ id below. absurd (omega (arith, below));
    ahead = λ id after. refl;
    out = λ id below. absurd (omega (arith, below));
    still = λ id after. refl;
    len = omega arith;
    capacity = refl;
  }

  pub walked_more : (mid new : LinksView (Message Q F)) (n : ℕ) → Walked old mid n → new.order ≡ without mid.order n → Updates mid.entries new.entries n (lost (get mid.entries n))
      → slab_len new.entries ≤ slab_len mid.entries → new.entries.capacity ≡ mid.entries.capacity → Walked old new (n + 1)
  walked_more mid new n w order updates len capacity = record {
    past = λ id below. elim (eqb_tells id n) [
      | inl same ↦ ap (get new.entries) same.1 ∙ updates.changed ∙ ap lost (w.ahead n (omega arith)) ∙ ap (λ k. lost (get old.entries k)) (sym same.1)
      | inr differs ↦ updates.others id differs.1 ∙ w.past id (let ne = differs.1 in omega (arith, below, ne))
    ];
    ahead = λ id after. updates.others id (λ e. omega (arith, after, e)) ∙ w.ahead id (omega (arith, after));
    out = λ id below. ap (λ l. has l id) order ∙ (elim (eqb_tells id n) [
      | inl same ↦ ap (has (without mid.order n)) same.1 ∙ has_without_same mid.order n
      | inr differs ↦ has_without_other mid.order n id differs.0 ∙ w.out id (let ne = differs.1 in omega (arith, below, ne))
    ]);
    still = λ id after. ap (λ l. has l id) order ∙ (elim (eqb_tells id n) [
      | inl same ↦ absurd (omega (arith, after, same.1))
      | inr differs ↦ has_without_other mid.order n id differs.0 ∙ w.still id (omega (arith, after))
    ]);
    len = omega (arith, len, w.len);
    capacity = capacity ∙ w.capacity;
  }

  module _ (new : LinksView (Message Q F)) (n : ℕ) (w : Walked old new n) (all : length old.entries.slots ≤ n) where
    pub walked_entries : (id : ℕ) → get new.entries id ≡ lost (get old.entries id)
    walked_entries id = elim (cases_order id n) [
      | inl same ↦ past (omega (arith, same))
      | inr other ↦ elim other [ inl before ↦ w.past id before | inr after ↦ past (omega (arith, after)) ]
    ]
      where
        past : n ≤ id → get new.entries id ≡ lost (get old.entries id)
        past le = let none = beyond old.entries.slots id (omega (arith, le, all)) in w.ahead id le ∙ none ∙ sym (ap lost none)

    pub walked_order : ((id : ℕ) → has old.order id ≡ is_queued (get old.entries id)) → new.order ≡ []
    walked_order linked = no_keys new.order (λ id. elim (cases_order id n) [
      | inl same ↦ past id (omega (arith, same))
      | inr other ↦ elim other [ inl before ↦ w.out id before | inr after ↦ past id (omega (arith, after)) ]
    ])
      where
        past : (id : ℕ) → n ≤ id → has new.order id ≡ false
        past id le = w.still id le ∙ linked id ∙ ap is_queued (beyond old.entries.slots id (omega (arith, le, all)))

module _ {Q F E : Type 0} (stored : Option E) (old new : LinksView (Message Q F)) (s : Sorted stored old) (order : new.order ≡ [])
    (entries : (id : ℕ) → get new.entries id ≡ lost (get old.entries id)) where
  pub holds_left : (messages : List (Entry Q F)) → Holds old messages → Holds new (abandoned messages)
  holds_left messages h = record {
    stands = λ place item at.
        let w = was_at messages place item at in
        let t = left_tells w.was item w.was.fate w.left in
        entries item.id ∙ ap (λ k. lost (get old.entries k)) (sym t.0) ∙ ap lost (h.stands place w.was w.at) ∙ t.1;
    sent = λ id message there. by id message (get old.entries id) refl (sym (entries id) ∙ there);
    once = λ place other one two first second same.
        let a = was_at messages place one first in
        let b = was_at messages other two second in
        h.once place other a.was b.was a.at b.at ((left_tells a.was one a.was.fate a.left).0 ∙ same ∙ sym (left_tells b.was two b.was.fate b.left).0);
    order = order ∙ sym (empty_queue (abandoned messages) (λ place item at.
        let w = was_at messages place item at in
        let t = left_tells w.was item w.was.fate w.left in
        out_of_it (kept w.was) w.was.fate (kept item) t.1 (s.sent w.was.id (kept w.was) (h.stands place w.was w.at)).1));
  }
    where
      by : (id : ℕ) (message : Message Q F) (slot : Option (Message Q F)) → get old.entries id ≡ slot → lost slot ≡ Some message → (place : ℕ) × At (abandoned messages) place (known id message)
      by id message None is e = absurd (cc)
      by id message (Some was) is e =
          let r = h.sent id was is in
          (r.0, left_at messages r.0 (known id was) r.1 ∙ ap Some (lost_tells id was message was.fate e))

-- one more was walked over
module _ {Q F E : Type 0} (stored : Option E) (old new : LinksView (Message Q F)) (s : Sorted stored old) where
  pub sorted_lost : (id : ℕ) → new.order ≡ without old.order id → Updates old.entries new.entries id (lost (get old.entries id)) → Sorted stored new
  sorted_lost id order updates = sorted_left stored old new s id (lost (get old.entries id)) updates order
      (sym (by (get old.entries id) (λ message there. (s.sent id message there).1)))
      (λ message there. fit message (get old.entries id) (λ was is. s.sent id was is) there)
    where
      one : (was : Message Q F) (fate : Fate F) → (is_unsettled fate ≡ false → was.request ≡ None) → false ≡ is_queued (lost_by was fate)
      one was Open out = refl
      one was Cancelled out = refl
      one was (Answered f) out = sym (ap is_some (out refl))
      one was Failed out = sym (ap is_some (out refl))
      one was Lost out = sym (ap is_some (out refl))

      by : (slot : Option (Message Q F)) → ((message : Message Q F) → slot ≡ Some message → is_unsettled message.fate ≡ false → message.request ≡ None) → false ≡ is_queued (lost slot)
      by None out = refl
      by (Some was) out = one was was.fate (out was refl)

      fit_one : (message was : Message Q F) (fate : Fate F) → was.fate ≡ fate → Fits stored was → lost_by was fate ≡ Some message → Fits stored message
      fit_one message was Open is fits e = subst (λ (m : Message Q F). Fits stored m) (some_is (record { request = None; fate = Lost }) message e) ((λ failed. absurd (cc)), (λ settled. refl))
      fit_one message was Cancelled is fits e = absurd (cc)
      fit_one message was (Answered f) is fits e = subst (λ (m : Message Q F). Fits stored m) (some_is was message e) fits
      fit_one message was Failed is fits e = subst (λ (m : Message Q F). Fits stored m) (some_is was message e) fits
      fit_one message was Lost is fits e = subst (λ (m : Message Q F). Fits stored m) (some_is was message e) fits

      fit : (message : Message Q F) (slot : Option (Message Q F)) → ((was : Message Q F) → slot ≡ Some was → Fits stored was) → lost slot ≡ Some message → Fits stored message
      fit message None fits e = absurd (cc)
      fit message (Some was) fits e = fit_one message was was.fate refl (fits was refl) e
