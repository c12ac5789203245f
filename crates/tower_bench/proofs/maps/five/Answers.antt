use Rattle.tower_bench.proofs.maps.five.Goals as goal

pub run-requires : goal.run-requires
run-requires g c =
    rw (c.and_then-service.ensures, c.then.ensures, c.map_err.ensures, c.map_response.ensures, c.map_request.ensures)
    (((((c.requires.inner, c.requires.request), c.requires.response), c.requires.error), c.requires.outcome, c.requires.then), c.requires.later, c.requires.and_then)
