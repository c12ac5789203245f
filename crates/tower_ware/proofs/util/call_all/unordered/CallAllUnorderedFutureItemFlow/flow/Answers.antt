use Rattle.tower_ware.proofs.util.call_all.unordered.CallAllUnorderedFutureItemFlow.flow.Goals as goal

pub returns-clause-flow : goal.returns-clause-flow
returns-clause-flow g c = rw (← c.self.view_is) c.iterate.ensures.flowed

pub returns-clause-quiet : goal.returns-clause-quiet
returns-clause-quiet g c = rw (← c.self.view_is) c.iterate.ensures.quiet
