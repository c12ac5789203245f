use Rattle.std.proofs.Common.{◌≡◌, ◌+◌, ◌∙◌, suc, inl, Some, true, false, is_some, length, refl, subst, sym, ap, arith}
use Rattle.std.proofs.lemmas.Bool.{lt-ltb, ltb-false, ltb-true}
use Rattle.slab.specs.Slab.{Slab, get, slab_len}
use Rattle.tower_buffer.specs.Messages.{is_queued}
use Rattle.tower_buffer.specs.Mail.{ClearsOldest, Mail, NoneQueued, TakesOldest}
use Rattle.tower_buffer.specs.Mailbox.{Follows, plain_of}
use Rattle.tower_buffer.specs.MessageSteps.{queued}
use Rattle.tower_buffer.specs.declared.buffer.mail.MailStep.TheVariants.{Take}
use Rattle.tower_buffer.specs.declared.buffer.mail.MailReply.{MailReply}
use Rattle.tower_buffer.proofs.Fates.{cancelled_is, open_queued, still_unsettled}
use Rattle.tower_limit.proofs.LineMoves.{stands_as}
use Rattle.tower_latch.proofs.WaitQueues.{has_some, none_is}
use Rattle.tower_buffer.proofs.MailNames.{neither_waits, none_named, tickets_then}
use Rattle.tower_buffer.proofs.Messages.{holds_as, none_queued}
use Rattle.tower_buffer.proofs.Moves.{cleared_none, cleared_some, first_has}
use Rattle.tower_buffer.proofs.MailOnes.{ticket_goes, ticket_then}
use Rattle.tower_buffer.proofs.MailFew.{few_more}
use Rattle.tower_buffer.proofs.buffer.mailbox.Mailbox.take.Goals as goal

pub invariant_of-self : goal.invariant_of-self
invariant_of-self g c =
    let old = c.clearing.self in
    let size = ap length c.is_cancelled.ensures.order in
    record {
      limit = old.limit;
      fits = omega (arith, old.fits, size);
      full = λ waits. omega (arith, old.full waits, size);
      room = omega (arith, old.room, ap slab_len c.is_cancelled.ensures.entries, ap (λ (e : Slab _). e.capacity) c.is_cancelled.ensures.entries);
    }

pub take_first-reply-requires-clause-open : goal.take_first-reply-requires-clause-open
take_first-reply-requires-clause-open g c = λ message at.
    let old = c.clearing.self in
    let there : get old.messages.links.entries c.in-Some.first ≡ Some message = ap (λ e. get e c.in-Some.first) (sym c.is_cancelled.ensures.entries) ∙ at in
    let some : is_some message.request ≡ true = sym (old.messages.linked c.in-Some.first ∙ ap is_queued there) ∙ first_has old.messages.links.order c.in-Some.first (sym c.in-Some.ensures) in
    let waited = sym (c.is_cancelled.ensures.cancelled message there) ∙ c.if-not-is_cancelled.true in
    open_queued message.fate (still_unsettled message.request message.fate some (old.messages.sent c.in-Some.first message there).1) waited

pub clear_first-requires-clause-cancelled : goal.clear_first-requires-clause-cancelled
clear_first-requires-clause-cancelled g c = λ message at.
    let old = c.clearing.self in
    let there : get old.messages.links.entries c.in-Some.first ≡ Some message = ap (λ e. get e c.in-Some.first) (sym c.is_cancelled.ensures.entries) ∙ at in
    cancelled_is message.fate (sym (c.is_cancelled.ensures.cancelled message there) ∙ c.if-not-is_cancelled.false)

pub clearing-init : goal.clearing-init
clearing-init g c = (0, (λ messages line h s. (messages, line, refl, h, s)), refl, omega arith, omega arith, refl, (λ key s. inl s), (λ key e. absurd (cc)), (λ none. refl), (λ key e. absurd (cc)), ((λ e. absurd (cc e)), (λ e. absurd (cc e))), (λ some. absurd (some refl)), (λ key s. s))

pub clearing-preserved : goal.clearing-preserved
clearing-preserved g c =
    let old = c.clearing.self in
    let mid = c.is_cancelled.new.self in
    let size : queued mid ≡ queued old.messages = ap length c.is_cancelled.ensures.order in (
      suc c.clearing.invariant.0,
      λ messages line h s.
          let r = c.clearing.invariant.1 messages line h s in
          let q = c.clear_first.ensures.clears r.0 r.1 (holds_as old.messages.links mid.links r.0 c.is_cancelled.ensures.order (λ id. ap (λ e. get e id) c.is_cancelled.ensures.entries) r.3)
          (stands_as old.bound (old.reserved + queued old.messages) (old.reserved + queued mid) old.queue r.1 (omega (arith, size)) r.4) in
          let as_was : record (plain_of old r.0 r.1) { stored = mid.stored } ≡ plain_of old r.0 r.1 = rw c.is_cancelled.ensures.stored refl in
          (q.0, q.1, (_, r.2, subst (λ (mail : Mail _ _ _). ClearsOldest mail (plain_of c.clear_first.new.self q.0 q.1)) as_was q.2), q.3, q.4),
      sym (lt-ltb 0 (suc c.clearing.invariant.0) (omega arith)),
      omega (arith, c.clearing.invariant.3, c.clear_first.ensures.few, c.clear_first.ensures.fewer, c.is_cancelled.ensures.touches, size),
      omega (arith, c.clearing.invariant.4, c.clear_first.ensures.fewer, size),
      c.clear_first.ensures.same.0 ∙ c.clearing.invariant.5,
      tickets_then _ _ _ c.clearing.wakes c.clear_first.result c.and-wakes.result c.clearing.invariant.6 c.clear_first.ensures.tickets c.and-wakes.ensures.named,
      neither_waits c.clearing.wakes c.clear_first.result c.and-wakes.result c.and-wakes.ensures.waits c.clearing.invariant.7 c.clear_first.ensures.waits,
      (λ none. absurd (cc)),
      ticket_then old.queue c.clear_first.new.self.queue c.clearing.wakes c.clear_first.result c.and-wakes.result c.and-wakes.ensures.one c.clearing.invariant.9 c.clear_first.ensures.stalls c.clear_first.ensures.one,
      few_more (queued c.args.self.now.messages) (queued old.messages) (queued c.clear_first.new.self.messages) c.args.self.now.queue old.queue c.clearing.wakes c.clear_first.result c.and-wakes.result
          c.clearing.invariant.12 c.clearing.invariant.10 c.clearing.invariant.11 c.clear_first.ensures.most (c.clear_first.ensures.fewer ∙ size) c.and-wakes.ensures.only_all c.and-wakes.ensures.several,
      (λ some. omega (arith, c.clearing.invariant.4, c.clear_first.ensures.fewer, size)),
      (λ key s. c.clearing.invariant.12 key (c.clear_first.ensures.stalls key s)),
    )

pub returns-then-not-is_cancelled-clause-follows : goal.returns-then-not-is_cancelled-clause-follows
returns-then-not-is_cancelled-clause-follows g c =
    let fn = c.args.self.now in
    let old = c.clearing.self in
    let mid = c.is_cancelled.new.self in
    let size : queued mid ≡ queued old.messages = ap length c.is_cancelled.ensures.order in
    let taken = c.take_first-reply.ensures.takes in
    subst (λ (reply : MailReply _ _ _). Follows fn Take reply c.take_first-reply.new.self) (sym taken.1) (λ messages line h s.
    let r = c.clearing.invariant.1 messages line h s in
    let q = taken.2 r.0 r.1 (holds_as old.messages.links mid.links r.0 c.is_cancelled.ensures.order (λ id. ap (λ e. get e id) c.is_cancelled.ensures.entries) r.3)
    (stands_as old.bound (old.reserved + queued old.messages) (old.reserved + queued mid) old.queue r.1 (omega (arith, size)) r.4) in
    let as_was : record (plain_of old r.0 r.1) { stored = mid.stored } ≡ plain_of old r.0 r.1 = rw c.is_cancelled.ensures.stored refl in
    (q.0, q.1, (c.clearing.invariant.0, _, r.2, subst (λ (mail : Mail _ _ _). TakesOldest mail c.in-Some.first taken.0 (plain_of c.take_first-reply.new.self q.0 q.1)) as_was q.2), q.3, q.4))

pub returns-then-cleared-clause-follows : goal.returns-then-cleared-clause-follows
returns-then-cleared-clause-follows g c = λ messages line h s.
    let r = c.clearing.invariant.1 messages line h s in
    let some = ltb-true 0 c.clearing.invariant.0 (sym c.clearing.invariant.2 ∙ c.if-cleared.true) in
    let none : NoneQueued r.0 = none_queued r.0 (sym r.3.order ∙ none_is c.clearing.self.messages.links.order c.in_default.ensures) in
    (r.0, r.1, cleared_some _ _ c.clearing.invariant.0 some r.2 none, r.3, r.4)

pub returns-then-is_over-clause-follows : goal.returns-then-is_over-clause-follows
returns-then-is_over-clause-follows g c = λ messages line h s.
    let r = c.clearing.invariant.1 messages line h s in
    let few = ltb-false 0 c.clearing.invariant.0 (sym c.clearing.invariant.2 ∙ c.if-cleared.false) in
    let none : NoneQueued r.0 = none_queued r.0 (sym r.3.order ∙ none_is c.clearing.self.messages.links.order c.in_default.ensures) in
    (r.0, r.1, cleared_none _ _ c.clearing.invariant.0 true few r.2 none (sym c.is_over.ensures ∙ c.if-is_over.true), r.3, r.4)

pub returns-clause-follows : goal.returns-clause-follows
returns-clause-follows g c = λ messages line h s.
    let r = c.clearing.invariant.1 messages line h s in
    let few = ltb-false 0 c.clearing.invariant.0 (sym c.clearing.invariant.2 ∙ c.if-cleared.false) in
    let none : NoneQueued r.0 = none_queued r.0 (sym r.3.order ∙ none_is c.clearing.self.messages.links.order c.in_default.ensures) in
    (r.0, r.1, cleared_none _ _ c.clearing.invariant.0 false few r.2 none (sym c.is_over.ensures ∙ c.if-is_over.false), r.3, r.4)

pub returns-then-not-is_cancelled-clause-names : goal.returns-then-not-is_cancelled-clause-names
returns-then-not-is_cancelled-clause-names g c =
    let old = c.clearing.self in
    let some = has_some old.messages.links.order c.in-Some.first (first_has old.messages.links.order c.in-Some.first (sym c.in-Some.ensures)) in (
      λ s. absurd (omega (arith, some, c.clearing.invariant.4, s.0)),
      tickets_then _ _ _ c.clearing.wakes c.take_first-reply.result.1 c.and.result c.clearing.invariant.6 c.take_first-reply.ensures.tickets c.and.ensures.named,
    )

pub returns-then-not-is_cancelled-clause-pending : goal.returns-then-not-is_cancelled-clause-pending
returns-then-not-is_cancelled-clause-pending g c = λ key e.
    absurd (neither_waits c.clearing.wakes c.take_first-reply.result.1 c.and.result c.and.ensures.waits c.clearing.invariant.7 c.take_first-reply.ensures.waits key e)

pub returns-then-not-is_cancelled-clause-told : goal.returns-then-not-is_cancelled-clause-told
returns-then-not-is_cancelled-clause-told g c = λ s.
    let old = c.clearing.self in
    let some = has_some old.messages.links.order c.in-Some.first (first_has old.messages.links.order c.in-Some.first (sym c.in-Some.ensures)) in
    absurd (omega (arith, some, c.clearing.invariant.4, s.0))

pub returns-then-cleared-clause-names : goal.returns-then-cleared-clause-names
returns-then-cleared-clause-names g c =
    let some = ltb-true 0 c.clearing.invariant.0 (sym c.clearing.invariant.2 ∙ c.if-cleared.true) in
    ((λ s. absurd (omega (arith, some, c.clearing.invariant.4, s.0))), c.clearing.invariant.6)

pub returns-then-cleared-clause-pending : goal.returns-then-cleared-clause-pending
returns-then-cleared-clause-pending g c = λ key e. absurd (c.clearing.invariant.7 key e)

pub returns-then-cleared-clause-told : goal.returns-then-cleared-clause-told
returns-then-cleared-clause-told g c = λ s.
    let some = ltb-true 0 c.clearing.invariant.0 (sym c.clearing.invariant.2 ∙ c.if-cleared.true) in
    absurd (omega (arith, some, c.clearing.invariant.4, s.0))

pub returns-then-is_over-clause-names : goal.returns-then-is_over-clause-names
returns-then-is_over-clause-names g c = (
  λ s. inl (omega (arith, c.clearing.invariant.4, s.0), c.clearing.invariant.5 ∙ s.1),
  λ key s. none_named _ c.clearing.wakes _ (c.clearing.invariant.8 c.if-cleared.false) (c.clearing.invariant.6 key s),
)

pub returns-then-is_over-clause-told : goal.returns-then-is_over-clause-told
returns-then-is_over-clause-told g c = λ s. sym (c.clearing.invariant.5 ∙ s.1) ∙ (sym c.is_over.ensures ∙ c.if-is_over.true)

pub returns-clause-names : goal.returns-clause-names
returns-clause-names g c = (
  λ s. inl (omega (arith, c.clearing.invariant.4, s.0), c.clearing.invariant.5 ∙ s.1),
  λ key s. none_named _ c.clearing.wakes _ (c.clearing.invariant.8 c.if-cleared.false) (c.clearing.invariant.6 key s),
)

pub returns-then-not-is_cancelled-clause-one : goal.returns-then-not-is_cancelled-clause-one
returns-then-not-is_cancelled-clause-one g c =
    ticket_goes _ _ _ _ _ c.and.result
    (ticket_then c.clearing.self.queue c.take_first-reply.new.self.queue c.clearing.wakes c.take_first-reply.result.1 c.and.result c.and.ensures.one c.clearing.invariant.9 c.take_first-reply.ensures.stalls c.take_first-reply.ensures.one)

pub returns-then-cleared-clause-one : goal.returns-then-cleared-clause-one
returns-then-cleared-clause-one g c = ticket_goes _ _ _ _ _ c.clearing.wakes c.clearing.invariant.9

pub returns-then-not-is_cancelled-clause-most : goal.returns-then-not-is_cancelled-clause-most
returns-then-not-is_cancelled-clause-most g c =
    let old = c.clearing.self in
    let size : queued c.is_cancelled.new.self ≡ queued old.messages = ap length c.is_cancelled.ensures.order in
    let t = few_more (queued c.args.self.now.messages) (queued old.messages) (queued c.take_first-reply.new.self.messages) c.args.self.now.queue old.queue c.clearing.wakes c.take_first-reply.result.1 c.and.result
    c.clearing.invariant.12 c.clearing.invariant.10 c.clearing.invariant.11 c.take_first-reply.ensures.most (c.take_first-reply.ensures.fewer ∙ size) c.and.ensures.only_all c.and.ensures.several in
    ((λ e. absurd (t.0 e)), t.1)

pub returns-then-cleared-clause-most : goal.returns-then-cleared-clause-most
returns-then-cleared-clause-most g c = ((λ e. absurd (c.clearing.invariant.10.0 e)), c.clearing.invariant.10.1)
