use Rattle.std.proofs.Common.{rules}
use Rattle.tower_ware.proofs.filter.future.AsyncResponseFutureSteps.step.Goals.{in-Check+in-Ready-ready+in-Ok+in-Check-1, in-Check+in-Ready-ready+in-Ok+in-InFlight-1, in-Check+in-Ready-ready+in-Ok+in-NoClone-1, in_default, in-InFlight+in-Ready-ready-2+in-Ok-ready, in-InFlight+in-Ready-ready-2+in-Err-ready, in-NoClone}
use Rattle.tower_ware.proofs.FilterLemmas.{quiet_check_and_response}
use Rattle.tower_ware.proofs.filter.future.AsyncResponseFutureSteps.step.Goals as goal

pub returns-clause-quiet : goal.returns-clause-quiet
returns-clause-quiet g c = elim c.match-self.branch [
  | in-Check+in-Ready-ready+in-Ok+in-Check-1 w ↦ elim c.match-self-3.branch [
    | in-InFlight+in-Ready-ready-2+in-Ok-ready v ↦
        quiet_check_and_response g.C.Steps.stirs g.F.Steps.stirs _ _ w.in-Check.check w.step.new.self w.in-Check.service v.in-InFlight.response
        v.step-in-InFlight.new.self c.args.cx.now _ _ _ _
        (search rules) (search rules) w.cx-is v.cx-is w.step.ensures.quiet v.step-in-InFlight.ensures.quiet
    | in-InFlight+in-Ready-ready-2+in-Err-ready v ↦
        quiet_check_and_response g.C.Steps.stirs g.F.Steps.stirs _ _ w.in-Check.check w.step.new.self w.in-Check.service v.in-InFlight.response
        v.step-in-InFlight.new.self c.args.cx.now _ _ _ _
        (search rules) (search rules) w.cx-is v.cx-is w.step.ensures.quiet v.step-in-InFlight.ensures.quiet
    | in-NoClone v ↦ search rules
  ]
  | in-Check+in-Ready-ready+in-Ok+in-InFlight-1 w ↦ search rules
  | in-Check+in-Ready-ready+in-Ok+in-NoClone-1 w ↦ search rules
  | in_default w ↦ search rules
]
