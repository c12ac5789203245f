use Rattle.std.proofs.Common.{inl, inr}
use Rattle.tower_base.specs.QuietLemmas.{ever}
use Rattle.tower_buffer.proofs.buffer.worker.Worker.serve.Goals as goal

pub returns-in-Pending-clause-quiet : goal.returns-in-Pending-clause-quiet
returns-in-Pending-clause-quiet g c = λ woken. elim (c.poll_ready.ensures.quiet woken) [ inl was ↦ inl was | inr stirs ↦ inr (inr (ever g.S.Service.stirs _ _ stirs)) ]

pub returns-in-Ready-Err-clause-quiet : goal.returns-in-Ready-Err-clause-quiet
returns-in-Ready-Err-clause-quiet g c = λ woken. elim (c.poll_ready.ensures.quiet woken) [ inl was ↦ inl was | inr stirs ↦ inr (inr (ever g.S.Service.stirs _ _ stirs)) ]

pub returns-in-Ready-Ok-clause-quiet : goal.returns-in-Ready-Ok-clause-quiet
returns-in-Ready-Ok-clause-quiet g c = λ woken. elim (c.poll_ready.ensures.quiet woken) [ inl was ↦ inl was | inr stirs ↦ inr (inr (ever g.S.Service.stirs _ _ stirs)) ]
