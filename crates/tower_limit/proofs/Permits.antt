-- Whose permits a share acquires: what a loop that gathers permits for `release_all` cites.
use Rattle.std.proofs.Common.{◌≡◌, ℕ, Option, Result, Ok, inl, inr, subst}
use Rattle.std.specs.declared.alloc.AllocError.{AllocError}
use Rattle.futures.specs.declared.task.Poll.{Poll}
use Rattle.futures.specs.declared.task.Poll.TheVariants.{Ready}
use Rattle.tower_latch.specs.declared.Latch.{Ghosts as LatchOf}
use Rattle.tower_limit.specs.Concurrency.{SemaphoreView, PermitView, PollSemaphoreView, SharesPermits, Replies, Acquired, IsOf}
use Rattle.tower_limit.specs.declared.limit.concurrency.line_core.LineCore.{LineCore}
use Rattle.tower_limit.specs.declared.limit.concurrency.line_core.LineStep.{LineStep}
use Rattle.tower_limit.specs.declared.limit.concurrency.line_core.LineReply.{LineReply}
use Rattle.tower_limit.specs.declared.limit.concurrency.line_core.LineReply.TheVariants.{Granted, Waiting, Left, Count, Unknown, Memory}

module _ {L : Type 0} (l : LatchOf L LineCore LineStep LineReply ℕ) where
  replied : (old : PollSemaphoreView L) (share : L) (reply : LineReply) (permit : PermitView L) (key : Option ℕ) → Replies l old share reply (Ready (Ok permit)) key → permit.latch ≡ share
  replied old share Granted permit key told = told.0
  replied old share (Waiting place) permit key told = absurd told
  replied old share Left permit key told = absurd told
  replied old share (Count n) permit key told = absurd told
  replied old share Unknown permit key told = absurd told
  replied old share Memory permit key told = absurd told

  acquired_is : (old new : PollSemaphoreView L) (permit : PermitView L) → Acquired l old (Ready (Ok permit)) new → IsOf l old.semaphore permit
  acquired_is old new permit (inl refused) = absurd refused.ran_out
  acquired_is old new permit (inr asked) = λ token its. asked.shares.its token (subst (λ (latch : L). l.its latch token) (replied old asked.share asked.reply permit new.key asked.replies) its)

  -- a permit that a share of the semaphore acquires is the semaphore's
  pub of_share : (semaphore share : SemaphoreView L) (old new : PollSemaphoreView L) (answer : Poll (Result (PermitView L) AllocError)) (permit : PermitView L)
      → SharesPermits l semaphore share → old.semaphore ≡ share → answer ≡ Ready (Ok permit) → Acquired l old answer new → IsOf l semaphore permit
  of_share semaphore share old new answer permit shares asking is acquired =
      let its = acquired_is old new permit (subst (λ (x : Poll (Result (PermitView L) AllocError)). Acquired l old x new) is acquired) in
      λ token held. shares.latch.its token (subst (λ (s : SemaphoreView L). l.its s.latch token) asking (its token held))
