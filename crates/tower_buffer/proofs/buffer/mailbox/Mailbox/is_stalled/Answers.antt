use Rattle.tower_buffer.proofs.MailStalls.{response_stalls, stalls_response, stalls_ticket, ticket_stalls, worker_stalls}
use Rattle.tower_buffer.proofs.buffer.mailbox.Mailbox.is_stalled.Goals as goal

pub returns-then-key-eq-WORKER-clause-exact : goal.returns-then-key-eq-WORKER-clause-exact
returns-then-key-eq-WORKER-clause-exact g c = λ apart s. c.lacks_message.ensures.exact (worker_stalls c.args.self.now c.args.key c.if-key-eq-WORKER.true s)

pub returns-then-key-eq-SHARED-clause-exact : goal.returns-then-key-eq-SHARED-clause-exact
returns-then-key-eq-SHARED-clause-exact g c = λ apart s. absurd (apart c.if-key-eq-SHARED.true)

pub returns-then-key-eq1-clause-stalls : goal.returns-then-key-eq1-clause-stalls
returns-then-key-eq1-clause-stalls g c = λ says. stalls_ticket c.args.self.now c.args.key c.ranges.key.fits c.if-key-eq-SHARED.false c.if-key-eq1.true (c.lacks_place.ensures.stalls says)

pub returns-then-key-eq1-clause-exact : goal.returns-then-key-eq1-clause-exact
returns-then-key-eq1-clause-exact g c = λ apart s. c.lacks_place.ensures.exact (ticket_stalls c.args.self.now c.args.key c.ranges.key.fits apart c.if-key-eq1.true s)

pub returns-clause-stalls : goal.returns-clause-stalls
returns-clause-stalls g c = λ says. stalls_response c.args.self.now c.args.key c.ranges.key.fits c.if-key-eq-SHARED.false c.if-key-eq-WORKER.false c.if-key-eq1.false (c.is_open.ensures.open says)

pub returns-clause-exact : goal.returns-clause-exact
returns-clause-exact g c = λ apart s.
    let r = response_stalls c.args.self.now c.args.key c.ranges.key.fits apart c.if-key-eq-WORKER.false c.if-key-eq1.false s in
    c.is_open.ensures.exact r.0 r.1 r.2
