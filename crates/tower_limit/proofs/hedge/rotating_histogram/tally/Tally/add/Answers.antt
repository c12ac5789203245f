use Rattle.std.proofs.Common.{◌≡◌, ◌∙◌, ℕ, ◌+◌, Some, None, arith, ap, sym}
use Rattle.std.specs.Cmp.{nat_cmp_total}
use Rattle.std.specs.Ordering.{nat_cmp}
use Rattle.std.specs.Option.{unwrap_or}
use Rattle.std.specs.BTreeMap.{get, is_at}
use Rattle.std.specs.Map.{lookup}
use Rattle.std.proofs.lemmas.Iterator.Adapters.{option_map_id}
use Rattle.std.proofs.lemmas.Map.Entries.{sum_by-insert_entry, sum_by-set_value}
use Rattle.tower_limit.proofs.hedge.rotating_histogram.tally.Tally.add.Goals as goal

pub invariant_of-self-clause-ordered : goal.invariant_of-self-clause-ordered
invariant_of-self-clause-ordered c = (c.get_mut.follows.holds (c.in-Some.count.now + 1)).4

pub invariant_of-self-clause-summed : goal.invariant_of-self-clause-summed
invariant_of-self-clause-summed c =
    let old = c.args.self.now in
    let written = c.get_mut.follows.holds (c.in-Some.count.now + 1) in
    let found : lookup (is_at (nat_cmp c.args.millis)) old.counts.entries ≡ Some c.in-Some.count.now = sym c.in-Some.ensures.value in
    let put = sum_by-set_value (λ (x : ℕ). x) (is_at (nat_cmp c.args.millis)) old.counts.entries c.in-Some.count.now (c.in-Some.count.now + 1) found in
    let summed = old.summed in
    rw written.0 (omega (arith, put, summed))

pub invariant_of-self-2-clause-summed : goal.invariant_of-self-2-clause-summed
invariant_of-self-2-clause-summed c =
    let old = c.args.self.now in
    let same = c.get_mut.follows.holds-at-none in
    let put = sum_by-insert_entry (λ (x : ℕ). x) nat_cmp_total old.counts.entries c.args.millis 1 old.ordered in
    let absent : get nat_cmp old.counts c.args.millis ≡ None = sym c.in_default.ensures.value in
    let none = ap (λ o. unwrap_or o 0) (option_map_id (get nat_cmp old.counts c.args.millis) ∙ absent) in
    let summed = old.summed in
    rw c.in-Ok.ensures.entries (rw same (omega (arith, put, none, summed)))
