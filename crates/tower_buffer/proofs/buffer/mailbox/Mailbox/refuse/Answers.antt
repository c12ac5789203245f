use Rattle.std.proofs.Common.{◌-◌, ◌+◌, refl, arith, inl, inr}
use Rattle.tower_buffer.specs.MessageSteps.{queued}
use Rattle.tower_limit.proofs.LineMoves.{admits, admits_fits, returned, stands_as}
use Rattle.tower_latch.proofs.WaitQueues.{admits_size}
use Rattle.tower_buffer.proofs.Replies.{refused}
use Rattle.tower_buffer.proofs.MailNames.{neither_waits, one_named, tickets_named, worker_at_end}
use Rattle.tower_buffer.proofs.MailOnes.{either_goes, named_goes, ticket_goes, worker_goes}
use Rattle.tower_buffer.proofs.MailFew.{few_both}
use Rattle.tower_buffer.proofs.buffer.mailbox.Mailbox.refuse.Goals as goal

pub returns-in-Memory-clause-follows : goal.returns-in-Memory-clause-follows
returns-in-Memory-clause-follows g c = λ messages line p s. (messages, line, (c.requires.reserved, c.requires.gone, c.in-Memory.ensures, refl), p, s)

pub invariant_of-self : goal.invariant_of-self
invariant_of-self g c =
    let old = c.args.self.now in
    let some = c.requires.reserved in
    let w = admits_fits old.bound (old.reserved - 1 + queued old.messages) old.queue c.admit.new.self (record { fits = omega (arith, old.fits, some); full = λ waits. omega (arith, old.full waits, some) }) c.admit.ensures.follows in
    let same = admits_size old.queue c.admit.new.self c.admit.ensures.follows in
    record {
      limit = old.limit;
      fits = w.fits;
      full = w.full;
      room = omega (arith, old.room, some, same);
    }

pub returns-clause-follows : goal.returns-clause-follows
returns-clause-follows g c = λ messages line p s.
    let old = c.args.self.now in
    let some = c.requires.reserved in
    let r = returned old.bound (old.reserved + queued old.messages) old.queue line s (omega (arith, some)) in
    let now = stands_as old.bound (old.reserved + queued old.messages - 1) (old.reserved - 1 + queued old.messages) old.queue r.0 (omega (arith, some)) r.2 in (
      messages,
      r.0,
      refused _ _ _ r.0 some c.requires.gone c.shut.ensures c.in_default.not-Memory r.1,
      p,
      admits old.bound (old.reserved - 1 + queued old.messages) old.queue r.0 now c.admit.new.self c.admit.ensures.follows,
    )

pub returns-clause-names : goal.returns-clause-names
returns-clause-names g c = (
  worker_at_end _ _ _ _ _ refl (λ over. c.and.ensures.named 0 (inr (one_named _ 0 (c.ended.ensures.named over)))),
  tickets_named _ _ _ _ _ c.admit.ensures.names.0 (λ key n. c.and.ensures.named _ (inl (c.named-wakes.ensures.named key n))),
)

pub returns-clause-pending : goal.returns-clause-pending
returns-clause-pending g c = λ key e. absurd (neither_waits _ _ _ c.and.ensures.waits c.named-wakes.ensures.waits c.ended.ensures.waits key e)

pub returns-clause-one : goal.returns-clause-one
returns-clause-one g c =
    either_goes _ _ _ _ _ c.named-wakes.result c.ended.result c.and.result c.and.ensures.one
    (ticket_goes _ _ _ _ _ c.named-wakes.result (named_goes c.admit.new.self c.admit.result c.named-wakes.result c.named-wakes.ensures.one c.admit.ensures.one))
    (worker_goes _ _ _ _ _ c.ended.result (λ key e. let o = c.ended.ensures.one key e in (inl o.0, o.1)))

pub returns-clause-most : goal.returns-clause-most
returns-clause-most g c =
    let t = few_both _ _ c.named-wakes.result c.ended.result c.and.result (c.named-wakes.ensures.most c.args.self.now.queue c.admit.new.self c.admit.ensures.most) c.ended.ensures.most c.and.ensures.only_all c.and.ensures.several in
    ((λ e. absurd (t.0 e)), λ e. (c.requires.gone, t.1 e))
