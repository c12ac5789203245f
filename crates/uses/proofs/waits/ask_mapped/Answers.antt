use Rattle.uses.proofs.waits.ask_mapped.Goals as goal

pub returns : goal.returns
returns g c =
    let told = c.in_ok-block_on_each.ensures.told in
    c.within_rate_through.ensures (λ m. m.inner) c.map_response.ensures _ _ _ (c.loops.ensures _ _ _ _ _ told.1)
