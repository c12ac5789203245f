use Rattle.std.proofs.Common.{◌∙◌, inl, inr, IsSome, ap, subst, sym}
use Rattle.tower_pool.specs.Balance.{IsIdle, view_of}
use Rattle.tower_pool.proofs.StirsLemmas.{quiet_by, quiet_then, stirs_ever}
use Rattle.tower_pool.proofs.balance.p2c.service.Balance.iterate_once.Goals as goal
use Rattle.tower_pool.proofs.balance.p2c.service.Balance.iterate_once.Goals.{in-Ok-true, in-Ok-false, in-Err}

pub returns-clause-quiet : goal.returns-clause-quiet
returns-clause-quiet g c = λ woken. elim c.match-check_ready_index.branch [
  | in-Ok-true w ↦ quiet_by (λ h. inl (stirs_ever g.S.Service.stirs _ c.in-Some.index h)) c.check_ready_index.ensures.quiet (sym (ap (λ cx. cx.is_woken) w.cx-is) ∙ woken)
  | in-Ok-false w ↦ quiet_then (λ h. inl (stirs_ever g.S.Service.stirs _ c.in-Some.index h))
      (λ i. inr (subst IsSome (sym w.result-is) i.0, subst (λ b. IsIdle (view_of b)) (sym w.self-is) i.1))
      c.check_ready_index.ensures.quiet w.choose-in-Ok-false.ensures.quiet (sym (ap (λ cx. cx.is_woken) w.cx-is) ∙ woken)
  | in-Err w ↦ quiet_then (λ h. inl (stirs_ever g.S.Service.stirs _ c.in-Some.index h))
      (λ i. inr (subst IsSome (sym w.result-is) i.0, subst (λ b. IsIdle (view_of b)) (sym w.self-is) i.1))
      c.check_ready_index.ensures.quiet w.choose-in-Err.ensures.quiet (sym (ap (λ cx. cx.is_woken) w.cx-is) ∙ woken)
]
