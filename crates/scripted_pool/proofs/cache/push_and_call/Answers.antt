use Rattle.std.proofs.Common.{nat_eq, subst, sym}
use Rattle.tower_pool.specs.ReadyCache.{At, AtKey}
use Rattle.scripted_pool.proofs.cache.push_and_call.Goals as goal

pub call_ready-requires-clause-ready : goal.call_ready-requires-clause-ready
call_ready-requires-clause-ready g c =
    subst (λ ready. AtKey nat_eq c.args.key ready (λ index. At ready index (λ e. g.S.Service.ready e.1))) (sym c.push-answer.ensures.ready) (c.in-Ok-true.ensures.ready c.in-Ok-true.field-0-test)
