use Rattle.std.specs.Prelude.{◌≡◌}
use Rattle.tower_latch.proofs.guarded.GuardedLatch.give.Given as goal

abbrev pub ghosts-lock_with : goal.ghosts-lock_with
ghosts-lock_with g a = record { are = λ terms. terms ≡ a.self.now.terms }
