use Rattle.tower.specs.WaitRuns.{RanOn}
use Rattle.uses.proofs.waits.count_answers.Given as goal

abbrev pub invariant-loop-request : goal.invariant-loop-request
invariant-loop-request g l = record {
  sound : g.W.Service.sound l.stack;
  ran : RanOn g.W.Service l.fn.stack l.stack;
}
