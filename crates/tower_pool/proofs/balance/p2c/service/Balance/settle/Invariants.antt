use Rattle.futures.specs.Task.{IsArmed, Keeps}
use Rattle.tower_base.specs.Quiet.{Ever, Quiet}
use Rattle.tower_pool.specs.Balance.{Sound, view_of}
use Rattle.std.proofs.Common.{◌≡◌, ◌<◌, false, length}
use Rattle.tower_pool.specs.ReadyCache.{HeardFrom}
use Rattle.tower_pool.proofs.BalanceLemmas.{Settling, turns}
use Rattle.tower_pool.proofs.balance.p2c.service.Balance.settle.Given as goal

abbrev pub invariant-loop-answer : goal.invariant-loop-answer
invariant-loop-answer g l = record {
  settling : Settling g.row.X.Denot g.K.PartialEq.eq g.S.Service g.S.Load.loaded g.S.Metric.PartialOrd.partial_cmp g.R.Rng.drew (view_of l.fn.self) (view_of l.self);
  sound : Sound g.D.Discover.sound g.D.Discover.discovered g.S.Service.sound (view_of l.self);
  heard : HeardFrom g.S.Service.needs l.fn.cx 0 l.fn.self.services.lists.pending → HeardFrom g.S.Service.needs l.cx 0 l.self.services.lists.pending;
  discover : l.self.discover ≡ l.fn.self.discover;
  over : l.self.is_over ≡ l.fn.self.is_over;
  reads : l.self.is_over ≡ false → IsArmed l.cx;
  waits : 0 < length l.self.services.lists.pending → IsArmed l.cx;
  quiet : Quiet (Ever g.S.Service.stirs) l.fn.cx l.cx;
  kept : Keeps l.fn.cx l.cx;
}

abbrev pub decreases-loop-answer : goal.decreases-loop-answer
decreases-loop-answer g l = turns (view_of l.self)
