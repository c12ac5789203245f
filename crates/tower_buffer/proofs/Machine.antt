-- What a mailbox serves is the machine's.
use Rattle.std.proofs.Common.{◌≡◌, ℕ, zero, suc, true, false, if◌then◌else◌, Option, Some, None, is_some, List, [], ◌∷◌, ◌++◌, map, slice_get, slice_index_or, refl, ◌+◌, ap, subst, sym, ◌∙◌, arith}
use Rattle.slab.specs.Slab.{get}
use Rattle.tower_latch.specs.Latch.{FollowsMachine, StepsAs}
use Rattle.tower_base.specs.Links.{LinksView}
use Rattle.tower_base.specs.Order.{has, Apart}
use Rattle.tower_limit.specs.Line.{Ticket}
use Rattle.tower_limit.specs.LineCore.{StandsAt}
use Rattle.tower_latch.specs.Waiters.{outside}
use Rattle.tower_buffer.specs.Messages.{is_queued}
use Rattle.tower_buffer.specs.Mail.{At, Entry, SentMessage, Mail, MailSteps}
use Rattle.tower_buffer.specs.MessageSteps.{Follows as MessagesFollow, Holds, KeepsRest, kept, known, queue, queued}
use Rattle.tower_buffer.specs.Mailbox.{Follows, HasLine, StandsFor, plain_of}
use Rattle.tower_buffer.specs.declared.buffer.message.Fate.TheVariants.{Open}
use Rattle.tower_buffer.specs.declared.buffer.message.Message.{Message}
use Rattle.tower_buffer.specs.declared.buffer.mail.MailStep.{MailStep}
use Rattle.tower_buffer.specs.declared.buffer.mail.MailReply.{MailReply}
use Rattle.tower_buffer.specs.declared.buffer.mailbox.Mailbox.{Mailbox}
use Rattle.tower_buffer.specs.declared.buffer.messages.Messages.{Messages}
use Rattle.tower_buffer.proofs.Fates.{queued_some, some_is}
use Rattle.tower_latch.proofs.KeysLemmas.{apart_cross, apart_is, at_has, has_at, has_first, not_both, or_right}
use Rattle.tower_limit.proofs.LineMoves.{stands_as}
use Rattle.tower_limit.proofs.Lines.{some_line}
use Rattle.tower_latch.proofs.WaitQueues.{some_queue}
use Rattle.tower_buffer.proofs.Messages.{Sorted, here_is, not_here, sorted_of}
use Rattle.tower_latch.proofs.Waiters.{outside_waits}

-- a key stands at one place
same_place : (keys : List ℕ) (i j key : ℕ) → Apart keys → slice_get keys i ≡ Some key → slice_get keys j ≡ Some key → i ≡ j
same_place [] i j key apart a b = absurd (cc)
same_place (x ∷ keys) zero zero key apart a b = refl
same_place (x ∷ keys) zero (suc j) key apart a b = absurd (not_both (has keys x) (ap (has keys) (some_is x key a) ∙ has_at keys j key b) apart.0)
same_place (x ∷ keys) (suc i) zero key apart a b = absurd (not_both (has keys x) (ap (has keys) (some_is x key b) ∙ has_at keys i key a) apart.0)
same_place (x ∷ keys) (suc i) (suc j) key apart a b = ap suc (same_place keys i j key apart.1 a b)

module _ {Q F : Type 0} where
  -- the same keys, linked as these are, without their messages
  blank_slot : Option (Message Q F) → Option (Unit {0})
  blank_slot None = None
  blank_slot (Some message) = Some tt

  blank_some : (slot : Option (Message Q F)) → is_some (blank_slot slot) ≡ is_some slot
  unfolding blank_slot
  blank_some None = refl
  blank_some (Some message) = refl

  blank_get : (slots : List (Option (Message Q F))) (key : ℕ) → slice_index_or (map blank_slot slots) key None ≡ blank_slot (slice_index_or slots key None)
  unfolding blank_slot
  blank_get [] key = refl
  blank_get (slot ∷ slots) zero = refl
  blank_get (slot ∷ slots) (suc key) = blank_get slots key

  abbrev shape : LinksView (Message Q F) → LinksView (Unit {0})
  shape links = record {
    order = links.order;
    entries = record { slots = map blank_slot links.entries.slots; vacant_key = 0; capacity = 0 };
    touches = 0;
  }

  -- the message that is kept under a key
  abbrev entry_of : ℕ → Option (Message Q F) → Entry Q F
  entry_of key None = Entry.gone Open
  entry_of key (Some message) = Entry.here (known key message)

  queue_of : (key : ℕ) (slot : Option (Message Q F)) (rest : List (Entry Q F)) → queue (entry_of key slot ∷ rest) ≡ (if is_queued slot then key ∷ queue rest else queue rest)
  queue_of key None rest = refl
  queue_of key (Some message) rest = refl

  one_is : (key : ℕ) (slot : Option (Message Q F)) (item : SentMessage Q F) → Some (entry_of key slot) ≡ Some (Entry.here item) → (key ≡ item.id) × (slot ≡ Some (kept item))
  one_is key None item e = absurd (not_here Open item e)
  one_is key (Some message) item e = let s = here_is (known key message) item e in (ap (λ (l : SentMessage Q F). l.id) s, ap (λ (l : SentMessage Q F). Some (kept l)) s)

  module _ (links : LinksView (Message Q F)) where
    abbrev entries_of : List ℕ → List (Entry Q F)
    entries_of [] = []
    entries_of (key ∷ keys) = entry_of key (get links.entries key) ∷ entries_of keys

    at_of : (keys : List ℕ) (place : ℕ) (item : SentMessage Q F) → At (entries_of keys) place item → (slice_get keys place ≡ Some item.id) × (get links.entries item.id ≡ Some (kept item))
    at_of [] place item at = absurd (cc)
    at_of (key ∷ keys) zero item at = let o = one_is key (get links.entries key) item at in (ap Some o.0, ap (get links.entries) (sym o.0) ∙ o.1)
    at_of (key ∷ keys) (suc place) item at = at_of keys place item at

    of_at : (keys : List ℕ) (place id : ℕ) (message : Message Q F) → slice_get keys place ≡ Some id → get links.entries id ≡ Some message → At (entries_of keys) place (known id message)
    of_at [] place id message at there = absurd (cc)
    of_at (key ∷ keys) zero id message at there =
        ap (λ k. Some (entry_of k (get links.entries k))) (some_is key id at) ∙ ap (λ (slot : Option (Message Q F)). Some (entry_of id slot)) there
    of_at (key ∷ keys) (suc place) id message at there = of_at keys place id message at there

    queue_none : (keys rest : List ℕ) → ((key : ℕ) → has keys key ≡ true → is_queued (get links.entries key) ≡ false) → queue (entries_of (keys ++ rest)) ≡ queue (entries_of rest)
    queue_none [] rest none = refl
    queue_none (key ∷ keys) rest none =
        queue_of key (get links.entries key) (entries_of (keys ++ rest))
        ∙ ap (λ b. if b then key ∷ queue (entries_of (keys ++ rest)) else queue (entries_of (keys ++ rest))) (none key (has_first key keys))
        ∙ queue_none keys rest (λ other h. none other (or_right _ (has keys other) h))

    queue_all : (keys : List ℕ) → ((key : ℕ) → has keys key ≡ true → is_queued (get links.entries key) ≡ true) → queue (entries_of keys) ≡ keys
    queue_all [] all = refl
    queue_all (key ∷ keys) all =
        queue_of key (get links.entries key) (entries_of keys)
        ∙ ap (λ b. if b then key ∷ queue (entries_of keys) else queue (entries_of keys)) (all key (has_first key keys))
        ∙ ap (λ l. key ∷ l) (queue_all keys (λ other h. all other (or_right _ (has keys other) h)))

  -- some messages are held
  pub some_messages : {E : Type 0} (stored : Option E) (links : LinksView (Message Q F)) → Sorted stored links → (messages : List (Entry Q F)) × Holds links messages
  some_messages stored links s =
      let out = outside (shape links) in
      let keys = out ++ links.order in
      let w = outside_waits (shape links) (apart_is links.order s.differ) (λ key h.
      let q = queued_some (get links.entries key) (sym (s.linked key) ∙ h) in
      ap is_some (blank_get links.entries.slots key) ∙ blank_some (get links.entries key) ∙ ap is_some q.1) in (
        entries_of links keys,
        record {
          stands = λ place item at. (at_of links keys place item at).1;
          sent = λ id message there.
              let a = at_has keys id (w.present id ∙ ap is_some (blank_get links.entries.slots id) ∙ blank_some (get links.entries id) ∙ ap is_some there) in
              (a.0, of_at links keys a.0 id message a.1 there);
          once = λ place other item another a b same.
              same_place keys place other another.id w.apart ((at_of links keys place item a).0 ∙ ap Some same) (at_of links keys other another b).0;
          order = sym (queue_none links out links.order (λ key h. sym (s.linked key) ∙ apart_cross out links.order key w.apart h)
              ∙ queue_all links links.order (λ key h. sym (s.linked key) ∙ h));
        },
      )

module _ {Q F E : Type 0} where
  -- some mail is what the box stands for
  pub some_mail : (box : Mailbox Q F E) → (mail : Mail Q F E) × StandsFor box mail
  some_mail box =
      let waiters = some_queue box.queue in
      let line = some_line box.bound (box.reserved + queued box.messages) waiters.0.keys (omega (arith, box.fits)) in
      let held = some_messages box.messages.stored box.messages.links (sorted_of box.messages) in
      (plain_of box held.0 line.0, (held.1, (waiters.0, waiters.1, line.1), refl))

  pub follows : (old new : Mailbox Q F E) (step : MailStep Q F E) (reply : MailReply Q F E) → Follows old step reply new
      → FollowsMachine StandsFor MailSteps old step reply new
  follows old new step reply f mail s =
      let r = f mail.messages mail.line s.0 s.1 in
      (plain_of new r.0 r.1, subst (λ (m : Mail Q F E). MailSteps m step reply (plain_of new r.0 r.1)) (sym s.2) r.2, (r.3, r.4, refl))

  pub served : (was old new : Mailbox Q F E) (asked step : MailStep Q F E) (reply : MailReply Q F E) → was ≡ old → asked ≡ step → Follows was step reply new
      → StepsAs StandsFor MailSteps old asked reply new
  served was old new asked step reply same is f = (
    some_mail old,
    subst (λ (m : Mailbox Q F E). FollowsMachine StandsFor MailSteps m asked reply new) same
        (subst (λ (a : MailStep Q F E). FollowsMachine StandsFor MailSteps was a reply new) (sym is) (follows was new step reply f)),
  )

  -- a step of the messages alone is one of the mail
  pub passes_on : (old : Mailbox Q F E) (now : Messages Q F E) (step : MailStep Q F E) (reply : MailReply Q F E) → MessagesFollow old.messages step reply now
      → KeepsRest old.messages now
      → (messages : List (Entry Q F)) (line : List Ticket) → Holds old.messages.links messages → HasLine old line
      → (left : List (Entry Q F)) × (goes : List Ticket) × MailSteps (plain_of old messages line) step reply (record (plain_of old left goes) { stored = now.stored })
      × Holds now.links left × StandsAt old.bound (old.reserved + queued now) old.queue goes
  passes_on old now step reply f rest messages line h s =
      let k = f (plain_of old messages line) refl h in (
        k.0,
        line,
        rw rest.3 k.1,
        k.2,
        stands_as old.bound (old.reserved + queued old.messages) (old.reserved + queued now) old.queue line (omega (arith, rest.0)) s,
      )

  -- the mail with these messages in place of its own
  abbrev pub box_with : (old : Mailbox Q F E) (now : Messages Q F E) → KeepsRest old.messages now → Mailbox Q F E
  box_with old now rest = record {
    alloc = old.alloc;
    bound = old.bound;
    reserved = old.reserved;
    queue = old.queue;
    messages = now;
    buffers = old.buffers;
    closed = old.closed;
    has_worker = old.has_worker;
    limit = old.limit;
    fits = omega (arith, old.fits, rest.0);
    full = λ waits. omega (arith, old.full waits, rest.0);
    room = omega (arith, old.room, rest.1, rest.2);
  }

  pub served_on : (was old : Mailbox Q F E) (now : Messages Q F E) (asked step : MailStep Q F E) (reply : MailReply Q F E) → was ≡ old → asked ≡ step
      → MessagesFollow was.messages step reply now → (rest : KeepsRest was.messages now) → StepsAs StandsFor MailSteps old asked reply (box_with was now rest)
  served_on was old now asked step reply same is f rest = served was old (box_with was now rest) asked step reply same is (passes_on was now step reply f rest)
