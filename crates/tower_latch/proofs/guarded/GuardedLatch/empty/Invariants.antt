use Rattle.std.specs.Prelude.{◌≡◌}
use Rattle.tower_latch.proofs.guarded.GuardedLatch.empty.Given as goal

abbrev pub ghosts-lock : goal.ghosts-lock
ghosts-lock g a = record { are = λ terms. terms ≡ a.self.now.terms }
