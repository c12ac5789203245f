use Rattle.scripted_pool.proofs.cache.call.Goals as goal

pub call_ready_index-requires-clause-ready : goal.call_ready_index-requires-clause-ready
call_ready_index-requires-clause-ready g c = c.in-Ok-true.ensures.ready c.in-Ok-true.field-0-test
