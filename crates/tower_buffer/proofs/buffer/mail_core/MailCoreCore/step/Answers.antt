use Rattle.std.proofs.Common.{refl, subst}
use Rattle.tower_latch.specs.declared.Wakes.{Wakes}
use Rattle.tower_buffer.specs.MailKeys.{Asks}
use Rattle.tower_buffer.specs.MailWakes.{Waiter}
use Rattle.tower_buffer.specs.declared.buffer.mail.MailStep.{MailStep}
use Rattle.tower_buffer.specs.declared.buffer.mail.MailStep.TheVariants.{Answer, Cancel, Fail, FailStored, Forget, Join, Live, Look, Outcome, Part, Reserve, Send, Take, Unreserve, WorkerGone}
use Rattle.tower_buffer.proofs.MailFew.{few_at}
use Rattle.tower_buffer.proofs.MailFreed.{decides_as, response_goes}
use Rattle.tower_buffer.proofs.MailAsks.{told_at, told_look, told_outcome, told_take}
use Rattle.tower_buffer.proofs.MailResponses.{answer_named, fail_named, failure_named, forget_named, gone_named, names_on, outcome_stalls, step_names}
use Rattle.tower_buffer.proofs.MailWaits.{quiet}
use Rattle.tower_buffer.proofs.Machine.{box_with, served, served_on}
use Rattle.tower_buffer.proofs.buffer.mail_core.MailCoreCore.step.Goals as goal

pub returns-in-Join-clause-steps : goal.returns-in-Join-clause-steps
returns-in-Join-clause-steps g c = served c.self.inside.mail c.args.self.now c.join.new.self c.args.step _ c.join.result c.self.view_is c.in-Join.is c.join.ensures.follows

pub returns-in-Part-clause-steps : goal.returns-in-Part-clause-steps
returns-in-Part-clause-steps g c = served c.self.inside.mail c.args.self.now c.part.new.self c.args.step _ c.part.result.0 c.self.view_is c.in-Part.is c.part.ensures.follows

pub returns-in-Reserve-clause-steps : goal.returns-in-Reserve-clause-steps
returns-in-Reserve-clause-steps g c = served c.self.inside.mail c.args.self.now c.reserve.new.self c.args.step _ c.reserve.result.0 c.self.view_is c.in-Reserve.is c.reserve.ensures.follows

pub returns-in-Look-clause-steps : goal.returns-in-Look-clause-steps
returns-in-Look-clause-steps g c = served c.self.inside.mail c.args.self.now c.look.new.self c.args.step _ c.look.result.0 c.self.view_is c.in-Look.is c.look.ensures.follows

pub returns-in-Cancel-clause-steps : goal.returns-in-Cancel-clause-steps
returns-in-Cancel-clause-steps g c = served c.self.inside.mail c.args.self.now c.cancel.new.self c.args.step _ c.cancel.result.0 c.self.view_is c.in-Cancel.is c.cancel.ensures.follows

pub returns-in-Unreserve-clause-steps : goal.returns-in-Unreserve-clause-steps
returns-in-Unreserve-clause-steps g c = served c.self.inside.mail c.args.self.now c.unreserve.new.self c.args.step _ c.unreserve.result.0 c.self.view_is c.in-Unreserve.is c.unreserve.ensures.follows

pub returns-in-Send-clause-steps : goal.returns-in-Send-clause-steps
returns-in-Send-clause-steps g c = served c.self.inside.mail c.args.self.now c.send.new.self c.args.step _ c.send.result.0 c.self.view_is c.in-Send.is c.send.ensures.follows

pub returns-in-Take-clause-steps : goal.returns-in-Take-clause-steps
returns-in-Take-clause-steps g c = served c.self.inside.mail c.args.self.now c.take.new.self c.args.step _ c.take.result.0 c.self.view_is c.in-Take.is c.take.ensures.follows

pub returns-in-Live-clause-steps : goal.returns-in-Live-clause-steps
returns-in-Live-clause-steps g c = served_on c.self.inside.mail c.args.self.now c.live.new.self c.args.step (Live c.in-Live.id) c.live.result c.self.view_is c.in-Live.is c.live.ensures.follows c.live.ensures.rest

pub returns-in-Answer-clause-steps : goal.returns-in-Answer-clause-steps
returns-in-Answer-clause-steps g c = served_on c.self.inside.mail c.args.self.now c.answer-reply.new.self c.args.step (Answer c.in-Answer.id c.in-Answer.future) c.answer-reply.result c.self.view_is c.in-Answer.is c.answer-reply.ensures.follows c.answer-reply.ensures.rest

pub returns-in-Fail-clause-steps : goal.returns-in-Fail-clause-steps
returns-in-Fail-clause-steps g c = served c.self.inside.mail c.args.self.now c.fail.new.self c.args.step _ c.fail.result.0 c.self.view_is c.in-Fail.is c.fail.ensures.follows

pub returns-in-FailStored-clause-steps : goal.returns-in-FailStored-clause-steps
returns-in-FailStored-clause-steps g c = served_on c.self.inside.mail c.args.self.now c.fail_stored-reply.new.self c.args.step (FailStored c.in-FailStored.id) c.fail_stored-reply.result c.self.view_is c.in-FailStored.is c.fail_stored-reply.ensures.follows c.fail_stored-reply.ensures.rest

pub returns-in-Outcome-clause-steps : goal.returns-in-Outcome-clause-steps
returns-in-Outcome-clause-steps g c = served_on c.self.inside.mail c.args.self.now c.outcome-reply.new.self c.args.step (Outcome c.in-Outcome.id) c.outcome-reply.result c.self.view_is c.in-Outcome.is c.outcome-reply.ensures.follows c.outcome-reply.ensures.rest

pub returns-in-Forget-clause-steps : goal.returns-in-Forget-clause-steps
returns-in-Forget-clause-steps g c = served_on c.self.inside.mail c.args.self.now c.forget_message-reply.new.self c.args.step (Forget c.in-Forget.id) c.forget_message-reply.result c.self.view_is c.in-Forget.is c.forget_message-reply.ensures.follows c.forget_message-reply.ensures.rest

pub returns-in-WorkerGone-clause-steps : goal.returns-in-WorkerGone-clause-steps
returns-in-WorkerGone-clause-steps g c = served c.self.inside.mail c.args.self.now c.worker_gone.new.self c.args.step _ c.worker_gone.result.0 c.self.view_is c.in-WorkerGone.is c.worker_gone.ensures.follows

pub returns-in-Join-clause-waits : goal.returns-in-Join-clause-waits
returns-in-Join-clause-waits g c = λ w.
    let all = returns-in-Join-clause-steps g c in
    let s = all.1 all.0.0 all.0.1 in
    absurd (quiet Join c.args.step _ all.0.0 s.0 c.in-Join.is s.1 (λ key s. s) (λ s. s) w)

pub returns-in-Part-clause-waits : goal.returns-in-Part-clause-waits
returns-in-Part-clause-waits g c = λ w.
    let all = returns-in-Part-clause-steps g c in
    let s = all.1 all.0.0 all.0.1 in
    absurd (quiet Part c.args.step _ all.0.0 s.0 c.in-Part.is s.1 (λ key s. s) (λ s. s) w)

pub returns-in-Cancel-clause-waits : goal.returns-in-Cancel-clause-waits
returns-in-Cancel-clause-waits g c = λ w.
    let all = returns-in-Cancel-clause-steps g c in
    let s = all.1 all.0.0 all.0.1 in
    absurd (quiet (Cancel c.in-Cancel.key) c.args.step _ all.0.0 s.0 c.in-Cancel.is s.1 (λ key s. s) (λ s. s) w)

pub returns-in-Unreserve-clause-waits : goal.returns-in-Unreserve-clause-waits
returns-in-Unreserve-clause-waits g c = λ w.
    let all = returns-in-Unreserve-clause-steps g c in
    let s = all.1 all.0.0 all.0.1 in
    absurd (quiet Unreserve c.args.step _ all.0.0 s.0 c.in-Unreserve.is s.1 (λ key s. s) (λ s. s) w)

pub returns-in-Send-clause-waits : goal.returns-in-Send-clause-waits
returns-in-Send-clause-waits g c = λ w.
    let all = returns-in-Send-clause-steps g c in
    let s = all.1 all.0.0 all.0.1 in
    absurd (quiet (Send c.in-Send.request) c.args.step _ all.0.0 s.0 c.in-Send.is s.1 (λ key s. s) (λ s. s) w)

pub returns-in-Live-clause-waits : goal.returns-in-Live-clause-waits
returns-in-Live-clause-waits g c = λ w.
    let all = returns-in-Live-clause-steps g c in
    let s = all.1 all.0.0 all.0.1 in
    absurd (quiet (Live c.in-Live.id) c.args.step _ all.0.0 s.0 c.in-Live.is s.1 (λ key s. s) (λ s. s) w)

pub returns-in-Answer-clause-waits : goal.returns-in-Answer-clause-waits
returns-in-Answer-clause-waits g c = λ w.
    let all = returns-in-Answer-clause-steps g c in
    let s = all.1 all.0.0 all.0.1 in
    absurd (quiet (Answer c.in-Answer.id c.in-Answer.future) c.args.step _ all.0.0 s.0 c.in-Answer.is s.1 (λ key s. s) (λ s. s) w)

pub returns-in-Fail-clause-waits : goal.returns-in-Fail-clause-waits
returns-in-Fail-clause-waits g c = λ w.
    let all = returns-in-Fail-clause-steps g c in
    let s = all.1 all.0.0 all.0.1 in
    absurd (quiet (Fail c.in-Fail.id c.in-Fail.error) c.args.step _ all.0.0 s.0 c.in-Fail.is s.1 (λ key s. s) (λ s. s) w)

pub returns-in-FailStored-clause-waits : goal.returns-in-FailStored-clause-waits
returns-in-FailStored-clause-waits g c = λ w.
    let all = returns-in-FailStored-clause-steps g c in
    let s = all.1 all.0.0 all.0.1 in
    absurd (quiet (FailStored c.in-FailStored.id) c.args.step _ all.0.0 s.0 c.in-FailStored.is s.1 (λ key s. s) (λ s. s) w)

pub returns-in-Forget-clause-waits : goal.returns-in-Forget-clause-waits
returns-in-Forget-clause-waits g c = λ w.
    let all = returns-in-Forget-clause-steps g c in
    let s = all.1 all.0.0 all.0.1 in
    absurd (quiet (Forget c.in-Forget.id) c.args.step _ all.0.0 s.0 c.in-Forget.is s.1 (λ key s. s) (λ s. s) w)

pub returns-in-WorkerGone-clause-waits : goal.returns-in-WorkerGone-clause-waits
returns-in-WorkerGone-clause-waits g c = λ w.
    let all = returns-in-WorkerGone-clause-steps g c in
    let s = all.1 all.0.0 all.0.1 in
    absurd (quiet WorkerGone c.args.step _ all.0.0 s.0 c.in-WorkerGone.is s.1 (λ key s. s) (λ s. s) w)

pub returns-in-Reserve-clause-waits : goal.returns-in-Reserve-clause-waits
returns-in-Reserve-clause-waits g c = rw c.in-Reserve.is (c.reserve.ensures.waits)

pub returns-in-Look-clause-waits : goal.returns-in-Look-clause-waits
returns-in-Look-clause-waits g c = rw c.in-Look.is (c.look.ensures.waits)

pub returns-in-Take-clause-waits : goal.returns-in-Take-clause-waits
returns-in-Take-clause-waits g c = rw c.in-Take.is (c.take.ensures.waits)

pub returns-in-Join-clause-names : goal.returns-in-Join-clause-names
returns-in-Join-clause-names g c = step_names c.self.inside.mail c.args.self.now c.join.new.self Join c.join.result Wakes.Nobody c.self.view_is c.join.ensures.follows (λ id d. absurd d) c.join.ensures.names (λ key e. absurd (cc))

pub returns-in-Part-clause-names : goal.returns-in-Part-clause-names
returns-in-Part-clause-names g c = step_names c.self.inside.mail c.args.self.now c.part.new.self Part c.part.result.0 c.part.result.1 c.self.view_is c.part.ensures.follows (λ id d. absurd d) c.part.ensures.names c.part.ensures.pending

pub returns-in-Reserve-clause-names : goal.returns-in-Reserve-clause-names
returns-in-Reserve-clause-names g c = step_names c.self.inside.mail c.args.self.now c.reserve.new.self Reserve c.reserve.result.0 c.reserve.result.1 c.self.view_is c.reserve.ensures.follows (λ id d. absurd d) c.reserve.ensures.names c.reserve.ensures.pending

pub returns-in-Look-clause-names : goal.returns-in-Look-clause-names
returns-in-Look-clause-names g c = step_names c.self.inside.mail c.args.self.now c.look.new.self (Look c.in-Look.key) c.look.result.0 c.look.result.1 c.self.view_is c.look.ensures.follows (λ id d. absurd d) c.look.ensures.names c.look.ensures.pending

pub returns-in-Cancel-clause-names : goal.returns-in-Cancel-clause-names
returns-in-Cancel-clause-names g c = step_names c.self.inside.mail c.args.self.now c.cancel.new.self (Cancel c.in-Cancel.key) c.cancel.result.0 c.cancel.result.1 c.self.view_is c.cancel.ensures.follows (λ id d. absurd d) c.cancel.ensures.names c.cancel.ensures.pending

pub returns-in-Unreserve-clause-names : goal.returns-in-Unreserve-clause-names
returns-in-Unreserve-clause-names g c = step_names c.self.inside.mail c.args.self.now c.unreserve.new.self Unreserve c.unreserve.result.0 c.unreserve.result.1 c.self.view_is c.unreserve.ensures.follows (λ id d. absurd d) c.unreserve.ensures.names c.unreserve.ensures.pending

pub returns-in-Send-clause-names : goal.returns-in-Send-clause-names
returns-in-Send-clause-names g c = step_names c.self.inside.mail c.args.self.now c.send.new.self (Send c.in-Send.request) c.send.result.0 c.send.result.1 c.self.view_is c.send.ensures.follows (λ id d. absurd d) c.send.ensures.names c.send.ensures.pending

pub returns-in-Take-clause-names : goal.returns-in-Take-clause-names
returns-in-Take-clause-names g c = step_names c.self.inside.mail c.args.self.now c.take.new.self Take c.take.result.0 c.take.result.1 c.self.view_is c.take.ensures.follows (λ id d. absurd d) c.take.ensures.names c.take.ensures.pending

pub returns-in-Fail-clause-names : goal.returns-in-Fail-clause-names
returns-in-Fail-clause-names g c = step_names c.self.inside.mail c.args.self.now c.fail.new.self (Fail c.in-Fail.id c.in-Fail.error) c.fail.result.0 c.fail.result.1 c.self.view_is c.fail.ensures.follows (fail_named c.in-Fail.id c.in-Fail.error c.fail.result.0 c.fail.result.1 c.fail.ensures.all) c.fail.ensures.names c.fail.ensures.pending

pub returns-in-WorkerGone-clause-names : goal.returns-in-WorkerGone-clause-names
returns-in-WorkerGone-clause-names g c = step_names c.self.inside.mail c.args.self.now c.worker_gone.new.self WorkerGone c.worker_gone.result.0 c.worker_gone.result.1 c.self.view_is c.worker_gone.ensures.follows (gone_named c.worker_gone.result.0 c.worker_gone.result.1 c.worker_gone.ensures.all) c.worker_gone.ensures.names c.worker_gone.ensures.pending

pub returns-in-Live-clause-names : goal.returns-in-Live-clause-names
returns-in-Live-clause-names g c = names_on c.self.inside.mail c.args.self.now c.live.new.self (Live c.in-Live.id) c.live.result Wakes.Nobody c.self.view_is c.live.ensures.follows c.live.ensures.rest (λ id d. absurd d) (λ key e. absurd (cc))

pub returns-in-Answer-clause-names : goal.returns-in-Answer-clause-names
returns-in-Answer-clause-names g c =
    names_on c.self.inside.mail c.args.self.now c.answer-reply.new.self (Answer c.in-Answer.id c.in-Answer.future) c.answer-reply.result c.decided-wakes.result c.self.view_is c.answer-reply.ensures.follows c.answer-reply.ensures.rest
    (answer_named c.in-Answer.id c.in-Answer.future c.answer-reply.result c.decided-wakes.result c.decided-wakes.ensures.named) (λ key e. absurd (c.decided-wakes.ensures.waits key e))

pub returns-in-FailStored-clause-names : goal.returns-in-FailStored-clause-names
returns-in-FailStored-clause-names g c =
    names_on c.self.inside.mail c.args.self.now c.fail_stored-reply.new.self (FailStored c.in-FailStored.id) c.fail_stored-reply.result c.decided-wakes-in-FailStored.result c.self.view_is c.fail_stored-reply.ensures.follows c.fail_stored-reply.ensures.rest
    (failure_named c.in-FailStored.id c.fail_stored-reply.result c.decided-wakes-in-FailStored.result c.decided-wakes-in-FailStored.ensures.named) (λ key e. absurd (c.decided-wakes-in-FailStored.ensures.waits key e))

pub returns-in-Forget-clause-names : goal.returns-in-Forget-clause-names
returns-in-Forget-clause-names g c =
    names_on c.self.inside.mail c.args.self.now c.forget_message-reply.new.self (Forget c.in-Forget.id) c.forget_message-reply.result c.decided-wakes-in-Forget.result c.self.view_is c.forget_message-reply.ensures.follows c.forget_message-reply.ensures.rest
    (forget_named c.in-Forget.id c.forget_message-reply.result c.decided-wakes-in-Forget.result c.decided-wakes-in-Forget.ensures.named) (λ key e. absurd (c.decided-wakes-in-Forget.ensures.waits key e))

pub returns-in-Outcome-clause-names : goal.returns-in-Outcome-clause-names
returns-in-Outcome-clause-names g c =
    names_on c.self.inside.mail c.args.self.now c.outcome-reply.new.self (Outcome c.in-Outcome.id) c.outcome-reply.result c.pending-wakes.result c.self.view_is c.outcome-reply.ensures.follows c.outcome-reply.ensures.rest
    (λ id d. absurd d)
    (λ key e.
    let w = c.pending-wakes.ensures.waits key e in
    (Waiter.response c.in-Outcome.id, w.1, outcome_stalls c.self.inside.mail c.outcome-reply.new.self c.in-Outcome.id c.outcome-reply.result c.outcome-reply.ensures.follows c.outcome-reply.ensures.rest w.0))

pub returns-in-Join-clause-told : goal.returns-in-Join-clause-told
returns-in-Join-clause-told g c = λ at a s. absurd (subst (λ (m : MailStep _ _ _). Asks m at) c.in-Join.is a)

pub returns-in-Part-clause-told : goal.returns-in-Part-clause-told
returns-in-Part-clause-told g c = λ at a s. absurd (subst (λ (m : MailStep _ _ _). Asks m at) c.in-Part.is a)

pub returns-in-Reserve-clause-told : goal.returns-in-Reserve-clause-told
returns-in-Reserve-clause-told g c = λ at a s. absurd (subst (λ (m : MailStep _ _ _). Asks m at) c.in-Reserve.is a)

pub returns-in-Cancel-clause-told : goal.returns-in-Cancel-clause-told
returns-in-Cancel-clause-told g c = λ at a s. absurd (subst (λ (m : MailStep _ _ _). Asks m at) c.in-Cancel.is a)

pub returns-in-Unreserve-clause-told : goal.returns-in-Unreserve-clause-told
returns-in-Unreserve-clause-told g c = λ at a s. absurd (subst (λ (m : MailStep _ _ _). Asks m at) c.in-Unreserve.is a)

pub returns-in-Send-clause-told : goal.returns-in-Send-clause-told
returns-in-Send-clause-told g c = λ at a s. absurd (subst (λ (m : MailStep _ _ _). Asks m at) c.in-Send.is a)

pub returns-in-Live-clause-told : goal.returns-in-Live-clause-told
returns-in-Live-clause-told g c = λ at a s. absurd (subst (λ (m : MailStep _ _ _). Asks m at) c.in-Live.is a)

pub returns-in-Answer-clause-told : goal.returns-in-Answer-clause-told
returns-in-Answer-clause-told g c = λ at a s. absurd (subst (λ (m : MailStep _ _ _). Asks m at) c.in-Answer.is a)

pub returns-in-Fail-clause-told : goal.returns-in-Fail-clause-told
returns-in-Fail-clause-told g c = λ at a s. absurd (subst (λ (m : MailStep _ _ _). Asks m at) c.in-Fail.is a)

pub returns-in-FailStored-clause-told : goal.returns-in-FailStored-clause-told
returns-in-FailStored-clause-told g c = λ at a s. absurd (subst (λ (m : MailStep _ _ _). Asks m at) c.in-FailStored.is a)

pub returns-in-Forget-clause-told : goal.returns-in-Forget-clause-told
returns-in-Forget-clause-told g c = λ at a s. absurd (subst (λ (m : MailStep _ _ _). Asks m at) c.in-Forget.is a)

pub returns-in-WorkerGone-clause-told : goal.returns-in-WorkerGone-clause-told
returns-in-WorkerGone-clause-told g c = λ at a s. absurd (subst (λ (m : MailStep _ _ _). Asks m at) c.in-WorkerGone.is a)

pub returns-in-Look-clause-told : goal.returns-in-Look-clause-told
returns-in-Look-clause-told g c = told_look c.args.self.now _ c.in-Look.key (told_at c.self.inside.mail c.args.self.now (Waiter.ticket c.in-Look.key) _ c.self.view_is c.look.ensures.told) c.args.step c.in-Look.is

pub returns-in-Take-clause-told : goal.returns-in-Take-clause-told
returns-in-Take-clause-told g c = told_take c.args.self.now _ (told_at c.self.inside.mail c.args.self.now Waiter.worker _ c.self.view_is c.take.ensures.told) c.args.step c.in-Take.is

pub returns-in-Outcome-clause-told : goal.returns-in-Outcome-clause-told
returns-in-Outcome-clause-told g c = told_outcome c.args.self.now _ c.in-Outcome.id (told_at c.self.inside.mail c.args.self.now (Waiter.response c.in-Outcome.id) _ c.self.view_is (λ s. c.outcome-reply.ensures.told s.0 s.1 s.2)) c.args.step c.in-Outcome.is

pub returns-in-Answer-clause-one : goal.returns-in-Answer-clause-one
returns-in-Answer-clause-one g c =
    response_goes c.args.self.now (box_with c.self.inside.mail c.answer-reply.new.self c.answer-reply.ensures.rest) c.args.step c.answer-reply.result c.decided-wakes.result (returns-in-Answer-clause-steps g c) (returns-in-Answer-clause-names g c) c.in-Answer.id
    (decides_as c.args.step (Answer c.in-Answer.id c.in-Answer.future) c.answer-reply.result c.in-Answer.id c.in-Answer.is refl) c.decided-wakes.ensures.one

pub returns-in-FailStored-clause-one : goal.returns-in-FailStored-clause-one
returns-in-FailStored-clause-one g c =
    response_goes c.args.self.now (box_with c.self.inside.mail c.fail_stored-reply.new.self c.fail_stored-reply.ensures.rest) c.args.step c.fail_stored-reply.result c.decided-wakes-in-FailStored.result (returns-in-FailStored-clause-steps g c) (returns-in-FailStored-clause-names g c) c.in-FailStored.id
    (decides_as c.args.step (FailStored c.in-FailStored.id) c.fail_stored-reply.result c.in-FailStored.id c.in-FailStored.is refl) c.decided-wakes-in-FailStored.ensures.one

pub returns-in-Forget-clause-one : goal.returns-in-Forget-clause-one
returns-in-Forget-clause-one g c =
    response_goes c.args.self.now (box_with c.self.inside.mail c.forget_message-reply.new.self c.forget_message-reply.ensures.rest) c.args.step c.forget_message-reply.result c.decided-wakes-in-Forget.result (returns-in-Forget-clause-steps g c) (returns-in-Forget-clause-names g c) c.in-Forget.id
    (decides_as c.args.step (Forget c.in-Forget.id) c.forget_message-reply.result c.in-Forget.id c.in-Forget.is refl) c.decided-wakes-in-Forget.ensures.one

pub returns-in-Outcome-clause-one : goal.returns-in-Outcome-clause-one
returns-in-Outcome-clause-one g c = λ key e. absurd (c.pending-wakes.ensures.one key e)

pub returns-in-Part-clause-most : goal.returns-in-Part-clause-most
returns-in-Part-clause-most g c = few_at c.self.inside.mail c.args.self.now c.part.new.self Part c.args.step c.part.result.0 c.part.result.1 c.self.view_is c.in-Part.is c.part.ensures.most

pub returns-in-Reserve-clause-most : goal.returns-in-Reserve-clause-most
returns-in-Reserve-clause-most g c = few_at c.self.inside.mail c.args.self.now c.reserve.new.self Reserve c.args.step c.reserve.result.0 c.reserve.result.1 c.self.view_is c.in-Reserve.is c.reserve.ensures.most

pub returns-in-Look-clause-most : goal.returns-in-Look-clause-most
returns-in-Look-clause-most g c = few_at c.self.inside.mail c.args.self.now c.look.new.self (Look c.in-Look.key) c.args.step c.look.result.0 c.look.result.1 c.self.view_is c.in-Look.is c.look.ensures.most

pub returns-in-Cancel-clause-most : goal.returns-in-Cancel-clause-most
returns-in-Cancel-clause-most g c = few_at c.self.inside.mail c.args.self.now c.cancel.new.self (Cancel c.in-Cancel.key) c.args.step c.cancel.result.0 c.cancel.result.1 c.self.view_is c.in-Cancel.is c.cancel.ensures.most

pub returns-in-Unreserve-clause-most : goal.returns-in-Unreserve-clause-most
returns-in-Unreserve-clause-most g c = few_at c.self.inside.mail c.args.self.now c.unreserve.new.self Unreserve c.args.step c.unreserve.result.0 c.unreserve.result.1 c.self.view_is c.in-Unreserve.is c.unreserve.ensures.most

pub returns-in-Send-clause-most : goal.returns-in-Send-clause-most
returns-in-Send-clause-most g c = few_at c.self.inside.mail c.args.self.now c.send.new.self (Send c.in-Send.request) c.args.step c.send.result.0 c.send.result.1 c.self.view_is c.in-Send.is c.send.ensures.most

pub returns-in-Take-clause-most : goal.returns-in-Take-clause-most
returns-in-Take-clause-most g c = few_at c.self.inside.mail c.args.self.now c.take.new.self Take c.args.step c.take.result.0 c.take.result.1 c.self.view_is c.in-Take.is c.take.ensures.most

pub returns-in-Fail-clause-most : goal.returns-in-Fail-clause-most
returns-in-Fail-clause-most g c = few_at c.self.inside.mail c.args.self.now c.fail.new.self (Fail c.in-Fail.id c.in-Fail.error) c.args.step c.fail.result.0 c.fail.result.1 c.self.view_is c.in-Fail.is c.fail.ensures.most

pub returns-in-WorkerGone-clause-most : goal.returns-in-WorkerGone-clause-most
returns-in-WorkerGone-clause-most g c = few_at c.self.inside.mail c.args.self.now c.worker_gone.new.self WorkerGone c.args.step c.worker_gone.result.0 c.worker_gone.result.1 c.self.view_is c.in-WorkerGone.is c.worker_gone.ensures.most

pub returns-in-Outcome-clause-most : goal.returns-in-Outcome-clause-most
returns-in-Outcome-clause-most g c = ((λ e. absurd (c.pending-wakes.ensures.all e)), (λ e. absurd (c.pending-wakes.ensures.unstalled e)))

pub returns-in-Answer-clause-most : goal.returns-in-Answer-clause-most
returns-in-Answer-clause-most g c = rw c.in-Answer.is ((λ e. absurd (c.decided-wakes.ensures.all e)), c.decided-wakes.ensures.unstalled)

pub returns-in-FailStored-clause-most : goal.returns-in-FailStored-clause-most
returns-in-FailStored-clause-most g c = rw c.in-FailStored.is ((λ e. absurd (c.decided-wakes-in-FailStored.ensures.all e)), c.decided-wakes-in-FailStored.ensures.unstalled)

pub returns-in-Forget-clause-most : goal.returns-in-Forget-clause-most
returns-in-Forget-clause-most g c = rw c.in-Forget.is ((λ e. absurd (c.decided-wakes-in-Forget.ensures.all e)), c.decided-wakes-in-Forget.ensures.unstalled)
