use Rattle.std.proofs.Common.{length}
use Rattle.futures.specs.Task.{Keeps}
use Rattle.tower_base.specs.Quiet.{Ever, Quiet}
use Rattle.tower_pool.specs.Balance.{Promotes}
use Rattle.tower_pool.specs.ReadyCache.{Sound}
use Rattle.tower_pool.proofs.balance.p2c.choose.promote.Given as goal

abbrev pub invariant-loop : goal.invariant-loop
invariant-loop g l = record {
  goes : (answer : _) (new : _) → Promotes {X = g.row.X.Denot} g.K.PartialEq.eq g.S.Service l.services.lists answer new → Promotes {X = g.row.X.Denot} g.K.PartialEq.eq g.S.Service l.fn.services.lists answer new;
  sound : Sound g.S.Service.sound l.services.lists;
  quiet : Quiet (Ever g.S.Service.stirs) l.fn.cx l.cx;
  kept : Keeps l.fn.cx l.cx;
}

abbrev pub decreases-loop : goal.decreases-loop
decreases-loop g l = length l.services.lists.pending
