use Rattle.std.proofs.Common.{◌≡◌, ◌≤◌, ◌-◌, true, false, None, is_some, ◌∙◌, inl, inr, refl, sym, ap, arith, length}
use Rattle.slab.specs.Slab.{get, slab_len}
use Rattle.tower_base.specs.Order.{has}
use Rattle.tower_latch.proofs.KeysLemmas.{apart_is, length_without, one_gone, only_gone, still_in, without_lacks, was_in}
use Rattle.tower_latch.proofs.WaitQueues.{Kept, absent_lacks, count_some, granted_goes, kept_apart, kept_count, kept_gone, kept_left, kept_of, kept_present, kept_taken, lacks_key, linked_leaves, longer, no_shorter, stays_without, frees_as}
use Rattle.tower_latch.proofs.wait_queue.WaitQueue.leave.Goals as goal

pub invariant_of-self : goal.invariant_of-self
invariant_of-self c =
    let old = c.args.self.now in
    let mid = c.remove.new.self in
    let none : get old.waiters.entries c.args.key ≡ None = sym c.in_default.ensures.value in
    let k : Kept old.granted mid = kept_gone old.granted old.waiters mid (kept_of old) c.args.key c.remove.ensures.entries c.remove.ensures.order none in
    let lacks : has old.waiters.order c.args.key ≡ false = absent_lacks old.waiters c.args.key old.present none in
    let size : length mid.order ≡ length old.waiters.order = ap length (c.remove.ensures.order ∙ without_lacks old.waiters.order c.args.key lacks) in
    record {
      apart = kept_apart old.granted mid k;
      present = kept_present old.granted mid k;
      count = kept_count old.granted mid k;
      places = omega (arith, ap slab_len c.in_default.ensures.absent, old.places, size);
    }

pub returns-in_default-clause-follows : goal.returns-in_default-clause-follows
returns-in_default-clause-follows c = λ plain s.
    let old = c.args.self.now in
    let mid = c.remove.new.self in
    let none : get old.waiters.entries c.args.key ≡ None = sym c.in_default.ensures.value in (
      plain,
      (lacks_key old.granted old.waiters plain s c.args.key none, refl),
      stays_without old.granted old.waiters plain s mid c.args.key c.remove.ensures.entries c.remove.ensures.order none,
    )

pub overflow_sub-self : goal.overflow_sub-self
overflow_sub-self c =
    let old = c.args.self.now in
    let mid = c.remove.new.self in
    let lacks : has old.waiters.order c.args.key ≡ false = no_shorter old.waiters.order c.args.key old.apart (omega (arith, c.if-len-waiting.true, c.len.ensures, c.len-waiting.ensures, ap length c.remove.ensures.order)) in
    let there : is_some (get old.waiters.entries c.args.key) ≡ true = ap is_some (sym c.in-Some.ensures.value) in
    count_some old.granted old.waiters (kept_of old) c.args.key there lacks

pub invariant_of-self-then-len-waiting : goal.invariant_of-self-then-len-waiting
invariant_of-self-then-len-waiting c =
    let old = c.args.self.now in
    let mid = c.remove.new.self in
    let lacks : has old.waiters.order c.args.key ≡ false = no_shorter old.waiters.order c.args.key old.apart (omega (arith, c.if-len-waiting.true, c.len.ensures, c.len-waiting.ensures, ap length c.remove.ensures.order)) in
    let there : is_some (get old.waiters.entries c.args.key) ≡ true = ap is_some (sym c.in-Some.ensures.value) in
    let size : length mid.order ≡ length old.waiters.order = ap length (c.remove.ensures.order ∙ without_lacks old.waiters.order c.args.key lacks) in
    let some : 1 ≤ old.granted = count_some old.granted old.waiters (kept_of old) c.args.key there lacks in
    let k : Kept (old.granted - 1) mid = kept_taken old.granted old.waiters mid (kept_of old) c.args.key c.remove.ensures.entries c.remove.ensures.order there lacks in
    record {
      apart = kept_apart (old.granted - 1) mid k;
      present = kept_present (old.granted - 1) mid k;
      count = kept_count (old.granted - 1) mid k;
      places = omega (arith, c.in-Some.ensures.len, old.places, size, some);
    }

pub returns-then-len-waiting-clause-follows : goal.returns-then-len-waiting-clause-follows
returns-then-len-waiting-clause-follows c = λ plain s.
    let old = c.args.self.now in
    let mid = c.remove.new.self in
    let lacks : has old.waiters.order c.args.key ≡ false = no_shorter old.waiters.order c.args.key old.apart (omega (arith, c.if-len-waiting.true, c.len.ensures, c.len-waiting.ensures, ap length c.remove.ensures.order)) in
    let there : is_some (get old.waiters.entries c.args.key) ≡ true = ap is_some (sym c.in-Some.ensures.value) in
    let r = granted_goes old.granted old.waiters plain s mid c.args.key c.remove.ensures.entries c.remove.ensures.order there lacks in
    let a = c.admit.ensures.follows _ r.3 in
    (a.0, (r.0, r.1, inr (r.2, a.1)), a.2)

pub invariant_of-self-else-len-waiting : goal.invariant_of-self-else-len-waiting
invariant_of-self-else-len-waiting c =
    let old = c.args.self.now in
    let mid = c.remove.new.self in
    let h : has old.waiters.order c.args.key ≡ true = longer old.waiters.order c.args.key (λ same. c.if-len-waiting.false (omega (arith, same, c.len.ensures, c.len-waiting.ensures, ap length c.remove.ensures.order))) in
    let k : Kept old.granted mid = kept_left old.granted old.waiters mid (kept_of old) c.args.key c.remove.ensures.entries c.remove.ensures.order h in
    record {
      apart = kept_apart old.granted mid k;
      present = kept_present old.granted mid k;
      count = kept_count old.granted mid k;
      places = omega (arith, c.in-Some.ensures.len, old.places, length_without old.waiters.order c.args.key (apart_is old.waiters.order old.apart) h, ap length c.remove.ensures.order);
    }

pub returns-clause-follows : goal.returns-clause-follows
returns-clause-follows c = λ plain s.
    let old = c.args.self.now in
    let mid = c.remove.new.self in
    let h : has old.waiters.order c.args.key ≡ true = longer old.waiters.order c.args.key (λ same. c.if-len-waiting.false (omega (arith, same, c.len.ensures, c.len-waiting.ensures, ap length c.remove.ensures.order))) in
    linked_leaves old.granted old.waiters plain s mid c.args.key c.remove.ensures.entries c.remove.ensures.order h

pub returns-in_default-clause-names : goal.returns-in_default-clause-names
returns-in_default-clause-names c =
    let old = c.args.self.now in
    let lacks : has old.waiters.order c.args.key ≡ false = absent_lacks old.waiters c.args.key old.present (sym c.in_default.ensures.value) in
    (λ at h. inl (ap (λ l. has l at) (c.remove.ensures.order ∙ without_lacks old.waiters.order c.args.key lacks) ∙ h), λ key e. absurd (cc))

pub returns-then-len-waiting-clause-names : goal.returns-then-len-waiting-clause-names
returns-then-len-waiting-clause-names c =
    let old = c.args.self.now in
    let lacks : has old.waiters.order c.args.key ≡ false = no_shorter old.waiters.order c.args.key old.apart (omega (arith, c.if-len-waiting.true, c.len.ensures, c.len-waiting.ensures, ap length c.remove.ensures.order)) in
    (λ at h. c.admit.ensures.names.0 at (ap (λ l. has l at) (c.remove.ensures.order ∙ without_lacks old.waiters.order c.args.key lacks) ∙ h), c.admit.ensures.names.1)

pub returns-clause-names : goal.returns-clause-names
returns-clause-names c = (λ at h. still_in c.args.self.now.waiters.order c.args.key at c.remove.new.self.order c.remove.ensures.order h, λ key e. absurd (cc))

pub returns-clause-one : goal.returns-clause-one
returns-clause-one c = one_gone c.args.self.now.waiters.order c.remove.new.self.order c.args.key c.remove.ensures.order

pub returns-in_default-clause-only : goal.returns-in_default-clause-only
returns-in_default-clause-only c = λ key named. absurd named

pub returns-then-len-waiting-clause-only : goal.returns-then-len-waiting-clause-only
returns-then-len-waiting-clause-only c = λ at named.
    let old = c.args.self.now in
    let lacks : has old.waiters.order c.args.key ≡ false = no_shorter old.waiters.order c.args.key old.apart (omega (arith, c.if-len-waiting.true, c.len.ensures, c.len-waiting.ensures, ap length c.remove.ensures.order)) in
    let only = c.admit.ensures.only at named in
    (ap (λ l. has l at) (sym (c.remove.ensures.order ∙ without_lacks old.waiters.order c.args.key lacks)) ∙ only.0, only.1)

pub returns-clause-only : goal.returns-clause-only
returns-clause-only c =
    let old = c.args.self.now in
    let h : has old.waiters.order c.args.key ≡ true = longer old.waiters.order c.args.key (λ same. c.if-len-waiting.false (omega (arith, same, c.len.ensures, c.len-waiting.ensures, ap length c.remove.ensures.order))) in
    only_gone old.waiters.order c.remove.new.self.order c.args.key c.remove.ensures.order h

pub returns-then-len-waiting-clause-most : goal.returns-then-len-waiting-clause-most
returns-then-len-waiting-clause-most c =
    frees_as c.args.self.now.waiters.order c.remove.new.self.order c.admit.new.self.waiters.order c.admit.result
    (λ at h. was_in c.args.self.now.waiters.order c.remove.new.self.order c.args.key at c.remove.ensures.order h) c.admit.ensures.most

pub returns-clause-most : goal.returns-clause-most
returns-clause-most c =
    let old = c.args.self.now in
    let mid = c.remove.new.self in
    let h : has old.waiters.order c.args.key ≡ true = longer old.waiters.order c.args.key (λ same. c.if-len-waiting.false (omega (arith, same, c.len.ensures, c.len-waiting.ensures, ap length c.remove.ensures.order))) in
    (h, one_gone old.waiters.order mid.order c.args.key c.remove.ensures.order c.args.key refl)
