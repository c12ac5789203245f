use Rattle.std.proofs.Common.{◌<◌, ◌≤◌, ℕ, max, arith, None, Some}
use Rattle.std.proofs.Common.{Option, IfSome, IfNone, unwrap_or}
use Rattle.futures.specs.LinkedLists.Wheel.{Wheel, EachDeadline}
use Rattle.tower_time.proofs.timers.state.State.next_turn.Goals as goal

-- with no key due, the time of the next poll is no later than any deadline
next_not_late : (w : Wheel) (next : Option ℕ) → EachDeadline w (λ when. w.elapsed < when) → IfSome next (λ at. EachDeadline w (λ when. at ≤ max when w.elapsed)) → IfSome next (λ at. EachDeadline w (λ when. at ≤ when))
next_not_late w None ahead bound = tt
next_not_late w (Some at) ahead bound = λ key when armed. omega (arith, ahead key when armed, bound key when armed)

noted_not_late : (w : Wheel) (next : Option ℕ) (last : ℕ) → IfSome next (λ at. EachDeadline w (λ when. at ≤ when)) → IfNone next (EachDeadline w (λ _. ⊥)) → EachDeadline w (λ when. unwrap_or next last ≤ when)
noted_not_late w None last bound idle = λ key when armed. absurd (idle key when armed)
noted_not_late w (Some at) last bound idle = bound

pub invariant_of-self : goal.invariant_of-self
invariant_of-self c =
    let before = c.args.self.now in
    let bound = next_not_late before.wheel _ c.requires c.poll_at.ensures.not_late in
    record {
      room = before.room;
      woken_when_fired = before.woken_when_fired;
      in_time = rw c.unwrap_or-self.ensures (noted_not_late before.wheel _ _ bound c.poll_at.ensures.idle);
    }
