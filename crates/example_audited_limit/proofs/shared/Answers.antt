use Rattle.std.proofs.Common.{sym, subst, arith}
use Rattle.std.specs.Result.{IfOk}
use Rattle.tower_latch.specs.Latch.{StepsAs}
use Rattle.tower_latch.specs.History.{IsLegal}
use Rattle.tower_limit.specs.Line.{LineSteps}
use Rattle.tower_limit.specs.LineCore.{Opens, StandsFor}
use Rattle.example_audited_limit.proofs.shared.Goals as goal

pub returns : goal.returns
returns g c =
    let entries = c.entries.result.now in
    let closed = subst (λ r. IfOk r (λ h. IsLegal Opens (StepsAs StandsFor LineSteps) g.K.Log.opening h)) c.unwrap-history.ensures c.close.ensures.legal in
    let legal : IsLegal Opens (StepsAs StandsFor LineSteps) g.K.Log.opening entries = subst (IsLegal Opens (StepsAs StandsFor LineSteps) g.K.Log.opening) (sym c.entries.ensures) closed in
    let once = c.audited.ensures.most.once in
    let bound = c.law.ensures.history c.args.max c.args.line g.K.Log.opening entries c.requires.line c.requires.opening legal once.0 in
    let most = once.1 in
    omega (arith, most, bound)
