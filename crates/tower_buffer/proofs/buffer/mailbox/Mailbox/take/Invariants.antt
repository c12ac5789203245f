use Rattle.std.proofs.Common.{◌≡◌, ◌≢◌, ◌⊎◌, ◌≤◌, ◌+◌, ℕ, false, nat_lt}
use Rattle.tower_latch.specs.WaitQueue.{stalls as queue_stalls}
use Rattle.tower_latch.specs.Wakes.{StallsOn}
use Rattle.tower_latch.specs.declared.Wakes.{Wakes}
use Rattle.tower_buffer.specs.Mail.{Clears}
use Rattle.tower_buffer.specs.MailWakes.{NamesTickets, SharesKey, TicketGoesOn, is_over}
use Rattle.tower_buffer.specs.Mailbox.{Changes, FewEach}
use Rattle.tower_buffer.specs.MessageSteps.{queued}
use Rattle.tower_buffer.proofs.buffer.mailbox.Mailbox.take.Given as goal

abbrev pub invariant-clearing : goal.invariant-clearing
invariant-clearing g l = (n : ℕ) × Changes (Clears n) l.fn.self l.self × (l.cleared ≡ nat_lt 0 n) × FewEach l.fn.self l.self
    × (queued l.self.messages + n ≡ queued l.fn.self.messages) × (is_over l.self ≡ is_over l.fn.self) × NamesTickets l.fn.self l.self l.wakes
    × ((key : ℕ) → l.wakes ≡ Wakes.Wait key → ⊥) × (l.cleared ≡ false → l.wakes ≡ Wakes.Nobody) × TicketGoesOn l.self.queue l.wakes
    × ((l.wakes ≡ Wakes.All → ⊥) × (l.wakes ≡ Wakes.Unstalled → (queued l.self.messages + 2 ≤ queued l.fn.self.messages) ⊎ SharesKey l.fn.self.queue))
    × (l.wakes ≢ Wakes.Nobody → queued l.self.messages + 1 ≤ queued l.fn.self.messages) × StallsOn queue_stalls l.self.queue l.fn.self.queue

abbrev pub decreases-clearing : goal.decreases-clearing
decreases-clearing g l = queued l.self.messages
