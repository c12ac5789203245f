use Rattle.std.proofs.Common.{ap, subst, sym, ◌∙◌}
use Rattle.tower_buffer.specs.Making.{Tries}
use Rattle.tower_buffer.proofs.buffer.layer.BufferLayerLayer.layer.Goals as goal

pub try_spawn-requires : goal.try_spawn-requires
try_spawn-requires g c =
    let given = subst (g.X.Executor.can_spawn c.args.self.now.executor) (sym c.in_ok-buffer.ensures.made.pair.work) (c.requires c.in_ok-buffer.worker.latch) in
    subst (λ executor. g.X.Executor.can_spawn executor c.in_ok-buffer.worker) (sym (ap (λ l. l.executor) c.self.view_is)) given

pub returns : goal.returns
returns g c = (
  (c.in_ok-buffer.worker, c.in_ok-buffer.ensures.made.pair, subst (λ executor. Tries g.X.Executor.spawned executor c.in_ok-buffer.worker) (ap (λ l. l.executor) c.self.view_is) c.try_spawn.ensures),
  ap g.L.Latch.terms c.in_ok-buffer.ensures.made.first ∙ c.in_ok-latch.ensures ∙ sym (ap (λ m. m.bound) c.new-core.ensures.2) ∙ ap (λ l. l.bound) c.self.view_is,
)
