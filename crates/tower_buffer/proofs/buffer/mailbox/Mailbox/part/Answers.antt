use Rattle.std.proofs.Common.{refl, inl}
use Rattle.tower_buffer.proofs.MailNames.{one_named, worker_at_end}
use Rattle.std.proofs.Common.{inl}
use Rattle.tower_buffer.proofs.MailOnes.{worker_goes}
use Rattle.tower_buffer.proofs.MailFew.{ended_few}
use Rattle.tower_buffer.proofs.buffer.mailbox.Mailbox.part.Goals as goal

pub returns-clause-names : goal.returns-clause-names
returns-clause-names g c = (worker_at_end _ _ _ _ _ refl (λ over. one_named _ 0 (c.ended.ensures.named over)), λ key s. inl s)

pub returns-clause-pending : goal.returns-clause-pending
returns-clause-pending g c = λ key e. absurd (c.ended.ensures.waits key e)

pub returns-clause-one : goal.returns-clause-one
returns-clause-one g c = worker_goes _ _ _ _ _ c.ended.result (λ key e. let o = c.ended.ensures.one key e in (inl o.0, o.1))

pub returns-clause-most : goal.returns-clause-most
returns-clause-most g c = let t = ended_few _ ⊥ c.ended.result c.ended.ensures.most in ((λ e. absurd (t.0 e)), t.1)
