use Rattle.tower_base.specs.GivesLemmas.{gives_only}
use Rattle.tests_retry.proofs.SecondLemmas.{is_second}
use Rattle.tests_retry.proofs.attempts.answer.Goals as goal

pub returns-in-Ready : goal.returns-in-Ready
returns-in-Ready c =
    let answer = c.law.ensures.attempts _ _ _ _ _ c.call-future.ensures.called c.in-Ready.ensures.1 in
    is_second _ _ _ _
    (λ old new error polled. cc (polled))
    (λ old new request future result called gives. let given = gives_only _ _ _ gives in cc (called, given))
    (λ old new request changed result outcome word asked. asked)
    (λ old new request copy copied. copied)
    _ _ _ _ _ _ c.call-future.ensures.called answer
