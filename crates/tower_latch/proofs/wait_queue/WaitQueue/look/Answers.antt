use Rattle.std.proofs.Common.{◌≡◌, ◌≤◌, ◌-◌, true, false, None, is_some, ◌∙◌, refl, sym, ap, arith, length}
use Rattle.slab.specs.Slab.{get, slab_len}
use Rattle.tower_base.specs.Order.{has}
use Rattle.tower_latch.proofs.KeysLemmas.{without_lacks}
use Rattle.tower_latch.proofs.WaitQueues.{Kept, count_some, granted_goes, kept_apart, kept_count, kept_gone, kept_grown, kept_of, kept_present, kept_taken, lacks_key, stays, stays_without, waits_on}
use Rattle.tower_latch.proofs.wait_queue.WaitQueue.look.Goals as goal

pub returns-then-is_linked-clause-follows : goal.returns-then-is_linked-clause-follows
returns-then-is_linked-clause-follows c = λ plain s.
    let old = c.args.self.now in
    let mid = c.is_linked.new.self in
    let grown = stays old.granted old.waiters plain s mid c.is_linked.ensures.order (λ key. ap (λ e. get e key) c.is_linked.ensures.entries) in
    (plain, waits_on old.granted old.waiters plain s c.args.key (sym c.if-is_linked.ensures.linked), grown)

pub invariant_of-self-in_default : goal.invariant_of-self-in_default
invariant_of-self-in_default c =
    let old = c.args.self.now in
    let mid = c.is_linked.new.self in
    let new = c.remove.new.self in
    let k1 : Kept old.granted mid = kept_grown old.granted old.waiters mid (kept_of old) c.is_linked.ensures.order (λ key. ap (λ e. get e key) c.is_linked.ensures.entries) in
    let lacks : has mid.order c.args.key ≡ false = ap (λ l. has l c.args.key) c.is_linked.ensures.order ∙ sym c.if-is_linked.ensures.linked in
    let size : length new.order ≡ length old.waiters.order = ap length (c.remove.ensures.order ∙ without_lacks mid.order c.args.key lacks ∙ c.is_linked.ensures.order) in
    let k : Kept old.granted new = kept_gone old.granted mid new k1 c.args.key c.remove.ensures.entries c.remove.ensures.order (sym c.in_default.ensures.value) in
    record {
      apart = kept_apart old.granted new k;
      present = kept_present old.granted new k;
      count = kept_count old.granted new k;
      places = omega (arith, ap slab_len c.in_default.ensures.absent, ap slab_len c.is_linked.ensures.entries, old.places, size);
    }

pub returns-in_default-clause-follows : goal.returns-in_default-clause-follows
returns-in_default-clause-follows c = λ plain s.
    let old = c.args.self.now in
    let mid = c.is_linked.new.self in
    let grown = stays old.granted old.waiters plain s mid c.is_linked.ensures.order (λ key. ap (λ e. get e key) c.is_linked.ensures.entries) in
    let none : get mid.entries c.args.key ≡ None = sym c.in_default.ensures.value in (
      plain,
      (lacks_key old.granted mid plain grown c.args.key none, refl),
      stays_without old.granted mid plain grown c.remove.new.self c.args.key c.remove.ensures.entries c.remove.ensures.order none,
    )

pub overflow_sub-self : goal.overflow_sub-self
overflow_sub-self c =
    let old = c.args.self.now in
    let mid = c.is_linked.new.self in
    let k1 : Kept old.granted mid = kept_grown old.granted old.waiters mid (kept_of old) c.is_linked.ensures.order (λ key. ap (λ e. get e key) c.is_linked.ensures.entries) in
    let lacks : has mid.order c.args.key ≡ false = ap (λ l. has l c.args.key) c.is_linked.ensures.order ∙ sym c.if-is_linked.ensures.linked in
    let there : is_some (get mid.entries c.args.key) ≡ true = ap is_some (sym c.in-Some.ensures.value) in
    count_some old.granted mid k1 c.args.key there lacks

pub invariant_of-self-2 : goal.invariant_of-self-2
invariant_of-self-2 c =
    let old = c.args.self.now in
    let mid = c.is_linked.new.self in
    let new = c.remove.new.self in
    let k1 : Kept old.granted mid = kept_grown old.granted old.waiters mid (kept_of old) c.is_linked.ensures.order (λ key. ap (λ e. get e key) c.is_linked.ensures.entries) in
    let lacks : has mid.order c.args.key ≡ false = ap (λ l. has l c.args.key) c.is_linked.ensures.order ∙ sym c.if-is_linked.ensures.linked in
    let there : is_some (get mid.entries c.args.key) ≡ true = ap is_some (sym c.in-Some.ensures.value) in
    let size : length new.order ≡ length old.waiters.order = ap length (c.remove.ensures.order ∙ without_lacks mid.order c.args.key lacks ∙ c.is_linked.ensures.order) in
    let some : 1 ≤ old.granted = count_some old.granted mid k1 c.args.key there lacks in
    let k : Kept (old.granted - 1) new = kept_taken old.granted mid new k1 c.args.key c.remove.ensures.entries c.remove.ensures.order there lacks in
    record {
      apart = kept_apart (old.granted - 1) new k;
      present = kept_present (old.granted - 1) new k;
      count = kept_count (old.granted - 1) new k;
      places = omega (arith, c.in-Some.ensures.len, ap slab_len c.is_linked.ensures.entries, old.places, size, some);
    }

pub returns-clause-follows : goal.returns-clause-follows
returns-clause-follows c = λ plain s.
    let old = c.args.self.now in
    let mid = c.is_linked.new.self in
    let grown = stays old.granted old.waiters plain s mid c.is_linked.ensures.order (λ key. ap (λ e. get e key) c.is_linked.ensures.entries) in
    let lacks : has mid.order c.args.key ≡ false = ap (λ l. has l c.args.key) c.is_linked.ensures.order ∙ sym c.if-is_linked.ensures.linked in
    let there : is_some (get mid.entries c.args.key) ≡ true = ap is_some (sym c.in-Some.ensures.value) in
    let r = granted_goes old.granted mid plain grown c.remove.new.self c.args.key c.remove.ensures.entries c.remove.ensures.order there lacks in
    (_, (r.0, r.1, r.2, refl), r.3)

pub returns-in_default-clause-names : goal.returns-in_default-clause-names
returns-in_default-clause-names c = λ at h.
    let mid = c.is_linked.new.self in
    let lacks : has mid.order c.args.key ≡ false = ap (λ l. has l c.args.key) c.is_linked.ensures.order ∙ sym c.if-is_linked.ensures.linked in
    ap (λ l. has l at) (c.remove.ensures.order ∙ without_lacks mid.order c.args.key lacks ∙ c.is_linked.ensures.order) ∙ h

pub returns-clause-names : goal.returns-clause-names
returns-clause-names c = λ at h.
    let mid = c.is_linked.new.self in
    let lacks : has mid.order c.args.key ≡ false = ap (λ l. has l c.args.key) c.is_linked.ensures.order ∙ sym c.if-is_linked.ensures.linked in
    ap (λ l. has l at) (c.remove.ensures.order ∙ without_lacks mid.order c.args.key lacks ∙ c.is_linked.ensures.order) ∙ h
