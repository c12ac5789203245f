use Rattle.uses.proofs.within_rate.ask_five.Goals as goal

pub returns : goal.returns
returns g c = c.in_ok-block_on_each_within_rate.ensures.bound 20 1000000000 c.requires.new
