use Rattle.futures.specs.Task.{Keeps}
use Rattle.tower_base.specs.Iterations.{Iterates}
use Rattle.tower_base.specs.Quiet.{Ever, Quiet}
use Rattle.tower_pool.specs.Balance.{Reads, Sound, view_of}
use Rattle.tower_pool.proofs.balance.p2c.service.Balance.read_all.Given as goal

abbrev pub invariant-loop-iteration : goal.invariant-loop-iteration
invariant-loop-iteration g l = record {
  went : Iterates (Reads g.D.Discover.discovered g.K.PartialEq.eq {E = g.row.S-Error.Denot}) l._iteration (view_of l.fn.self) (view_of l.self);
  sound : Sound g.D.Discover.sound g.D.Discover.discovered g.S.Service.sound (view_of l.self);
  quiet : Quiet (Ever g.D.Discover.stirs) l.fn.cx l.cx;
  kept : Keeps l.fn.cx l.cx;
}
