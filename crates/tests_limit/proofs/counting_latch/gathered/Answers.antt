use Rattle.std.proofs.Common.{◌≡◌, All, ap, sym, subst, ◌∙◌}
use Rattle.std.proofs.lemmas.List.Elements.{All-push}
use Rattle.futures.specs.declared.task.Poll.TheVariants.{Ready}
use Rattle.tower_limit.specs.Concurrency.{IsOf}
use Rattle.tower_limit.proofs.Permits.{of_share}
use Rattle.tests_limit.proofs.counting_latch.gathered.Goals as goal
use Rattle.tests_limit.proofs.counting_latch.gathered.Goals.{in-Ready+in_ok-permit+in_ok-push, in_default}

pub loop-preserved : goal.loop-preserved
loop-preserved g c = elim c.match-poll_acquire.branch [
  | in-Ready+in_ok-permit+in_ok-push w ↦
      let its =
      of_share g.L.Latch c.args.semaphore.now c.in_ok-share.field-0 _ _ _ w.in_ok-permit.field-0 c.in_ok-share.ensures.shares (ap (λ asking. asking.semaphore) c.new-asking.ensures)
      (w.in-Ready.is ∙ ap (λ result. Ready result) w.in_ok-permit.was) c.poll_acquire.ensures.acquired in
      subst (λ permits. All (IsOf g.L.Latch c.args.semaphore.now) permits.items) (sym w.permits-is)
      (subst (λ permits. All (IsOf g.L.Latch c.args.semaphore.now) permits) (sym w.in_ok-push.ensures.items) (All-push (IsOf g.L.Latch c.args.semaphore.now) _ _ c.loop.invariant its))
  | in_default w ↦ subst (λ permits. All (IsOf g.L.Latch c.args.semaphore.now) permits.items) (sym w.permits-is) c.loop.invariant
]
