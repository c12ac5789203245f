-- One message among all that were sent, and what a step leaves of it.
use Rattle.std.proofs.Common.{◌≡◌, ◌≢◌, ℕ, ◌+◌, ◌<◌, ◌≤◌, zero, suc, Bool, true, false, List, [], ◌∷◌, length, Option, Some, None, OnSome, is_some, slice_set, refl, sym, ap, subst, ◌∙◌, inl, inr, arith}
use Rattle.slab.specs.Slab.{Slab, get, slab_len, Updates}
use Rattle.tower_base.specs.Links.{LinksView}
use Rattle.tower_base.specs.Order.{has, without, first_or, Apart}
use Rattle.tower_buffer.specs.Messages.{FailsTaken, Fits, is_queued, taken_at}
use Rattle.tower_buffer.specs.Mail.{At, Clears, Entry, IsTaken, SentMessage, Mail, NoneQueued, NoneWith, OldestAt, Settles, is_over}
use Rattle.tower_buffer.specs.MessageSteps.{Holds, kept, known, queue}
use Rattle.tower_latch.specs.Waiters.{are_apart}
use Rattle.tower_buffer.specs.declared.buffer.message.Fate.{Fate}
use Rattle.tower_buffer.specs.declared.buffer.message.Fate.TheVariants.{Failed, Cancelled}
use Rattle.tower_buffer.specs.declared.buffer.message.Message.{Message}
use Rattle.tower_buffer.proofs.Fates.{by_none, some_is}
use Rattle.tower_latch.proofs.KeysLemmas.{apart_is, has_first, length_without, without_first, without_lacks}
use Rattle.tower_latch.proofs.WaitQueues.{first_is}
use Rattle.tower_buffer.proofs.Messages.{FitsIf, Sorted, first_queued, holds_changed, holds_gone, none_with, queue_first, queue_gone, queue_same, sorted_as, sorted_changed, sorted_left}

module _ {Q F : Type 0} where
  -- none with this id is at the worker
  pub not_taken : (links : LinksView (Message Q F)) (messages : List (Entry Q F)) (id : ℕ) → Holds links messages → taken_at (get links.entries id) ≡ None
      → NoneWith IsTaken messages id
  not_taken links messages id h none = none_with links messages id IsTaken h
      (λ item there is. by_none item.request item.fate (sym (ap taken_at there) ∙ none) is.0 is.1)

  -- nobody waits for one with this id
  pub not_known : (links : LinksView (Message Q F)) (messages : List (Entry Q F)) (id : ℕ) → Holds links messages
      → ((message : Message Q F) → get links.entries id ≡ Some message → message.fate ≡ Cancelled) → NoneWith (λ item. item.fate ≢ Cancelled) messages id
  not_known links messages id h cancelled = none_with links messages id (λ item. item.fate ≢ Cancelled) h
      (λ item there ne. ne (cancelled (kept item) there))

  -- a message that isn't queued is changed, or gone: its place among all, and what is held then
  pub record IsChanged (messages : List (Entry Q F)) (old new : LinksView (Message Q F)) (id : ℕ) (message now : Message Q F) : Type 0 where
    pub place : ℕ
    pub at : At messages place (known id message)
    pub holds : Holds new (slice_set messages place (Entry.here (known id now)))

  pub record IsGone (messages : List (Entry Q F)) (old new : LinksView (Message Q F)) (id : ℕ) (message : Message Q F) : Type 0 where
    pub place : ℕ
    pub at : At messages place (known id message)
    pub holds : (fate : Fate F) → Holds new (slice_set messages place (Entry.gone fate))

  module _ (messages : List (Entry Q F)) (old new : LinksView (Message Q F)) (id : ℕ) (message : Message Q F) (there : get old.entries id ≡ Some message) (h : Holds old messages) where
    pub changed : (now : Message Q F) → is_some now.request ≡ is_some message.request → Updates old.entries new.entries id (Some now) → new.order ≡ old.order
        → IsChanged messages old new id message now
    changed now same updates order =
        let r = h.sent id message there in record {
          place = r.0;
          at = r.1;
          holds = holds_changed old new messages h r.0 (known id message) r.1 (known id now) refl updates
              (order ∙ h.order ∙ sym (queue_same messages r.0 (known id message) (known id now) r.1 refl same));
        }

    pub gone : has old.order id ≡ is_queued (get old.entries id) → message.request ≡ None → Updates old.entries new.entries id None → new.order ≡ without old.order id
        → IsGone messages old new id message
    gone linked out updates order =
        let r = h.sent id message there in
        let lacks : has old.order id ≡ false = linked ∙ ap is_queued there ∙ ap is_some out in record {
          place = r.0;
          at = r.1;
          holds = λ fate. holds_gone old new messages h r.0 (known id message) r.1 fate updates
              (order ∙ without_lacks old.order id lacks ∙ h.order ∙ sym (queue_gone messages r.0 (known id message) fate r.1 out));
        }

  -- the oldest queued message, and what is held once it has left the queue
  pub record IsFirst (messages : List (Entry Q F)) (old : LinksView (Message Q F)) (id : ℕ) : Type 0 where
    pub place : ℕ
    pub item : SentMessage Q F
    pub request : Q
    pub oldest : OldestAt messages place item request
    pub is : item.id ≡ id
    pub there : get old.entries id ≡ Some (kept item)
    pub cleared : (new : LinksView (Message Q F)) (fate : Fate F) → Updates old.entries new.entries id None → new.order ≡ without old.order id
        → Holds new (slice_set messages place (Entry.gone fate))
    pub opened : (new : LinksView (Message Q F)) → Updates old.entries new.entries id (Some (record { request = None; fate = item.fate })) → new.order ≡ without old.order id
        → Holds new (slice_set messages place (Entry.here (record item { request = None })))

  pub first : {E : Type 0} (messages : List (Entry Q F)) (old : LinksView (Message Q F)) (id : ℕ) (stored : Option E) → Holds old messages → Sorted stored old → first_or old.order None ≡ Some id
      → IsFirst messages old id
  first messages old id stored h s front =
      let o = first_is old.order id (sym front) in
      let r = first_queued messages id o.0 (sym h.order ∙ o.1) in
      let lacks : has o.0 id ≡ false = (subst Apart o.1 (apart_is old.order s.differ)).0 in
      let left : without old.order id ≡ o.0 = ap (λ l. without l id) o.1 ∙ without_first id o.0 lacks in
      let rest : (now : Entry Q F) → ((more : List (Entry Q F)) → queue (now ∷ more) ≡ queue more) → without old.order id ≡ queue (slice_set messages r.place now) = λ now skip.
      left ∙ tail_is id r.item.id o.0 (queue (slice_set messages r.place now)) (sym o.1 ∙ h.order ∙ queue_first messages r.place r.item r.request now r.oldest skip) in
      record {
        place = r.place;
        item = r.item;
        request = r.request;
        oldest = r.oldest;
        is = r.is;
        there = ap (get old.entries) (sym r.is) ∙ h.stands r.place r.item r.oldest.0;
        cleared = λ new fate updates order. holds_gone old new messages h r.place r.item r.oldest.0 fate
            (subst (λ (i : ℕ). Updates old.entries new.entries i None) (sym r.is) updates) (order ∙ rest (Entry.gone fate) (λ more. refl));
        opened = λ new updates order. holds_changed old new messages h r.place r.item r.oldest.0 (record r.item { request = None }) refl
            (subst (λ (i : ℕ). Updates old.entries new.entries i (Some (record { request = None; fate = r.item.fate }))) (sym r.is) updates)
            (order ∙ rest (Entry.here (record r.item { request = None })) (λ more. refl));
      }
    where
      tail_is : (a b : ℕ) (xs ys : List ℕ) → a ∷ xs ≡ b ∷ ys → xs ≡ ys
      tail_is a b xs ys e = ap (λ (l : List ℕ). elim l [ [] ↦ xs | z ∷ zs ↦ zs ]) e

-- without its first the order is shorter by one
pub one_less : (order : List ℕ) (id : ℕ) → are_apart order ≡ true → first_or order None ≡ Some id → length order ≡ length (without order id) + 1
one_less order id apart front =
    let o = first_is order id (sym front) in
    length_without order id (apart_is order apart) (ap (λ l. has l id) o.1 ∙ has_first id o.0)

pub first_has : (order : List ℕ) (id : ℕ) → first_or order None ≡ Some id → has order id ≡ true
first_has order id front = let o = first_is order id (sym front) in ap (λ l. has l id) o.1 ∙ has_first id o.0

pub on_some : {X : Type 0} (r : Option X) (x : X) (P : Type 0) → r ≡ Some x → OnSome r P → P
on_some {X = X} r x P e h = subst (λ (o : Option X). OnSome o P) e h

-- a taken message fails
module _ {Q F : Type 0} where
  -- once a taken message is finished
  pub record IsFinished (messages : List (Entry Q F)) (new : LinksView (Message Q F)) (id : ℕ) : Type 0 where
    pub left : List (Entry Q F)
    pub settles : Settles Failed messages id left
    pub holds : Holds new left

  pub finished : (messages : List (Entry Q F)) (old new : LinksView (Message Q F)) (id : ℕ) → Holds old messages → has old.order id ≡ is_queued (get old.entries id)
      → FailsTaken old id new → IsFinished messages new id
  finished messages old new id h linked f = elim f.goes [
    | inl o ↦
        let r = changed messages old new id f.message f.was h (record f.message { fate = Failed }) refl o.1 o.2 in record {
          left = slice_set messages r.place (Entry.here (known id (record f.message { fate = Failed })));
          settles = (r.place, known id f.message, (r.at, refl, f.taken), inl (o.0, refl));
          holds = r.holds;
        }
    | inr c ↦
        let r = gone messages old new id f.message f.was h linked f.taken c.1 c.2 in record {
          left = slice_set messages r.place (Entry.gone Cancelled);
          settles = (r.place, known id f.message, (r.at, refl, f.taken), inr (c.0, refl));
          holds = r.holds Cancelled;
        }
  ]

module _ {Q F E : Type 0} where
  -- where an error is stored now
  pub wider : (was now : Option E) (links : LinksView (Message Q F)) → is_some now ≡ true → Sorted was links → Sorted now links
  wider was now links some s = record { differ = s.differ; linked = s.linked; sent = λ id message there. ((λ failed. some), (s.sent id message there).1) }

  -- nothing else is known of one that isn't there
  pub none_fits : (stored : Option E) → FitsIf {Q = Q} {F = F} stored None
  none_fits stored message is = absurd (cc)

  pub one_fits : (stored : Option E) (now : Message Q F) → Fits stored now → FitsIf stored (Some now)
  one_fits stored now fits message is = subst (λ (m : Message Q F). Fits stored m) (some_is now message is) fits

  pub sorted_gone : (stored : Option E) (old new : LinksView (Message Q F)) (id : ℕ) → Sorted stored old → Updates old.entries new.entries id None → new.order ≡ without old.order id
      → Sorted stored new
  sorted_gone stored old new id s updates order = sorted_left stored old new s id None updates order refl (none_fits stored)

  pub sorted_finished : (was now : Option E) (old new : LinksView (Message Q F)) (id : ℕ) → is_some now ≡ true → Sorted was old → FailsTaken old id new
      → Sorted now new × (length new.order ≡ length old.order)
  sorted_finished was now old new id some s f = elim f.goes [
    | inl o ↦ (
      sorted_changed now old new (wider was now old some s) id (Some (record f.message { fate = Failed })) o.1 o.2 (sym (ap is_queued f.was))
          (one_fits now (record f.message { fate = Failed }) ((λ failed. some), (λ settled. f.taken))),
      ap length o.2,
    )
    | inr c ↦ (
      sorted_gone now old new id (wider was now old some s) c.1 c.2,
      ap length (c.2 ∙ without_lacks old.order id (s.linked id ∙ ap is_queued f.was ∙ ap is_some f.taken)),
    )
  ]

  pub sorted_either : (stored : Option E) (old new : LinksView (Message Q F)) (id : ℕ) (b : Bool) → is_some stored ≡ true → Sorted stored old
      → (b ≡ false → (new.order ≡ old.order) × (new.entries ≡ old.entries)) → (b ≡ true → FailsTaken old id new) → Sorted stored new × (length new.order ≡ length old.order)
  sorted_either stored old new id true some s kept fails = sorted_finished stored stored old new id some s (fails refl)
  sorted_either stored old new id false some s kept fails =
      let k = kept refl in (sorted_as stored old new s k.0 (λ id. ap (λ e. get e id) k.1), ap length k.0)

  -- what holds of the links once one that isn't queued was changed, or is gone
  pub record IsSound (stored : Option E) (old new : LinksView (Message Q F)) (id : ℕ) (slot : Option (Message Q F)) (order : List ℕ) : Type 0 where
    pub sorted : Sorted stored new
    pub size : length new.order ≡ length old.order
    pub len : slab_len new.entries ≤ slab_len old.entries
    pub capacity : new.entries.capacity ≡ old.entries.capacity
    pub updates : Updates old.entries new.entries id slot
    pub ordered : new.order ≡ order

  module _ (stored : Option E) (old mid new : LinksView (Message Q F)) (id : ℕ) (message : Message Q F) (s : Sorted stored old) (there : get old.entries id ≡ Some message)
      (same : mid.order ≡ old.order) (all : mid.entries ≡ old.entries) (capacity : new.entries.capacity ≡ mid.entries.capacity) where
    pub removed : message.request ≡ None → Updates mid.entries new.entries id None → new.order ≡ without mid.order id → (result : Option (Message Q F)) → result ≡ get mid.entries id
        → OnSome result (slab_len new.entries + 1 ≡ slab_len mid.entries) → IsSound stored old new id None (without old.order id)
    removed out updates order result is len =
        let u : Updates old.entries new.entries id None = subst (λ (e : Slab (Message Q F)). Updates e new.entries id None) all updates in
        let o : new.order ≡ without old.order id = order ∙ ap (λ l. without l id) same in
        let less = on_some result message (slab_len new.entries + 1 ≡ slab_len mid.entries) (is ∙ ap (λ e. get e id) all ∙ there) len in record {
          sorted = sorted_gone stored old new id s u o;
          size = ap length (o ∙ without_lacks old.order id (s.linked id ∙ ap is_queued there ∙ ap is_some out));
          len = omega (arith, less, ap slab_len all);
          capacity = capacity ∙ ap (λ (e : Slab (Message Q F)). e.capacity) all;
          updates = u;
          ordered = o;
        }

    pub resettled : (now : Message Q F) → is_some now.request ≡ is_some message.request → Fits stored now → Updates mid.entries new.entries id (Some now)
        → new.order ≡ mid.order → slab_len new.entries ≡ slab_len mid.entries → IsSound stored old new id (Some now) old.order
    resettled now queued fits updates order len =
        let u : Updates old.entries new.entries id (Some now) = subst (λ (e : Slab (Message Q F)). Updates e new.entries id (Some now)) all updates in
        let o : new.order ≡ old.order = order ∙ same in record {
          sorted = sorted_changed stored old new s id (Some now) u o (queued ∙ sym (ap is_queued there)) (one_fits stored now fits);
          size = ap length o;
          len = omega (arith, len, ap slab_len all);
          capacity = capacity ∙ ap (λ (e : Slab (Message Q F)). e.capacity) all;
          updates = u;
          ordered = o;
        }

  -- they were only read
  pub read : (stored : Option E) (old new : LinksView (Message Q F)) → Sorted stored old → new.order ≡ old.order → new.entries ≡ old.entries → Sorted stored new
  read stored old new s order all = sorted_as stored old new s order (λ id. ap (λ e. get e id) all)

  pub cleared_some : (old new : Mail Q F E) (n : ℕ) → 0 < n → Clears n old new → NoneQueued new.messages → (m : ℕ) × Clears (suc m) old new × NoneQueued new.messages
  cleared_some old new zero some clears none = absurd (omega (arith, some))
  cleared_some old new (suc m) some clears none = (m, clears, none)

  pub cleared_none : (old new : Mail Q F E) (n : ℕ) (over : Bool) → n ≤ 0 → Clears n old new → NoneQueued new.messages → is_over new ≡ over
      → NoneQueued old.messages × (is_over old ≡ over) × (new ≡ old)
  cleared_none old new zero over few clears none is =
      (subst (λ (m : Mail Q F E). NoneQueued m.messages) clears none, subst (λ (m : Mail Q F E). is_over m ≡ over) clears is, clears)
  cleared_none old new (suc n) over few clears none is = absurd (omega (arith, few))
