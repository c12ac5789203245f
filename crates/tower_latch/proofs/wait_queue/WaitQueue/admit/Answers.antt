use Rattle.std.proofs.Common.{◌≡◌, ◌+◌, Some, true, refl, ap, ◌∙◌, arith, length, slice_get}
use Rattle.slab.specs.Slab.{slab_len}
use Rattle.tower_base.specs.Order.{has}
use Rattle.tower_latch.proofs.KeysLemmas.{has_at, one_gone, only_gone, still_in, was_in, has_first}
use Rattle.tower_latch.proofs.Waiters.{admitted}
use Rattle.tower_latch.proofs.WaitQueues.{Kept, admits_first, first_is, kept_admitted, kept_apart, kept_count, kept_of, kept_present}
use Rattle.tower_latch.proofs.wait_queue.WaitQueue.admit.Goals as goal

pub invariant_of-self : goal.invariant_of-self
invariant_of-self c =
    let old = c.args.self.now in
    let new = c.unlink.new.self in
    let first = first_is old.waiters.order c.in-Some.first c.in-Some.ensures in
    let k0 = kept_of old in
    let left : new.order ≡ first.0 = (admitted k0.front old.waiters new k0.waits c.in-Some.first first.0 first.1 c.unlink.ensures.order c.unlink.ensures.entries).0 in
    let k : Kept (old.granted + 1) new = kept_admitted old.granted old.waiters new k0 c.in-Some.first first.0 first.1 c.unlink.ensures.order c.unlink.ensures.entries in
    record {
      apart = kept_apart (old.granted + 1) new k;
      present = kept_present (old.granted + 1) new k;
      count = kept_count (old.granted + 1) new k;
      places = omega (arith, ap slab_len c.unlink.ensures.entries, old.places, ap length left, ap length first.1);
    }

pub returns-clause-follows : goal.returns-clause-follows
returns-clause-follows c = λ plain s.
    let old = c.args.self.now in
    let new = c.unlink.new.self in
    let first = first_is old.waiters.order c.in-Some.first c.in-Some.ensures in
    admits_first old.granted old.waiters plain s new c.in-Some.first first.0 first.1 c.unlink.ensures.order c.unlink.ensures.entries

pub returns-clause-names : goal.returns-clause-names
returns-clause-names c = (λ at h. still_in c.args.self.now.waiters.order c.in-Some.first at c.unlink.new.self.order c.unlink.ensures.order h, λ key e. absurd (cc))

pub returns-clause-one : goal.returns-clause-one
returns-clause-one c = one_gone c.args.self.now.waiters.order c.unlink.new.self.order c.in-Some.first c.unlink.ensures.order

pub returns-clause-fewer : goal.returns-clause-fewer
returns-clause-fewer c = λ key. was_in c.args.self.now.waiters.order c.unlink.new.self.order c.in-Some.first key c.unlink.ensures.order

pub returns-clause-only : goal.returns-clause-only
returns-clause-only c =
    let old = c.args.self.now in
    let first = first_is old.waiters.order c.in-Some.first c.in-Some.ensures in
    let at : slice_get old.waiters.order 0 ≡ Some c.in-Some.first = ap (λ l. slice_get l 0) first.1 in
    let h : has old.waiters.order c.in-Some.first ≡ true = has_at old.waiters.order 0 c.in-Some.first at in
    only_gone old.waiters.order c.unlink.new.self.order c.in-Some.first c.unlink.ensures.order h

pub returns-clause-most : goal.returns-clause-most
returns-clause-most c =
    let old = c.args.self.now in
    let first = first_is old.waiters.order c.in-Some.first c.in-Some.ensures in
    let had : has old.waiters.order c.in-Some.first ≡ true = ap (λ l. has l c.in-Some.first) first.1 ∙ has_first c.in-Some.first first.0 in
    (had, one_gone old.waiters.order c.unlink.new.self.order c.in-Some.first c.unlink.ensures.order c.in-Some.first refl)
