use Rattle.std.proofs.Common.{arith}
use Rattle.example_audited_limit.proofs.Counts.{audit_next}
use Rattle.example_audited_limit.proofs.audit.audited.Goals as goal

pub loop-entry-preserved : goal.loop-entry-preserved
loop-entry-preserved c =
    let i = c.loop-entry.invariant in
    let e = c.counts-out.ensures in
    let m = c.most_after-most.ensures in
    let next = audit_next c.args.entries.now c.loop-entry.entry-index _ c.loop-entry.granted c.loop-entry.returned c.loop-entry.most _ _ _ c.loop-entry-test.true i.0 i.1 i.4 e.granted e.returned m.out m.stays m.is in
    let a = i.2 in
    let b = i.3 in
    let small = e.small in
    (next.0, next.1, omega (arith, a, small.0), omega (arith, b, small.1), next.2)
