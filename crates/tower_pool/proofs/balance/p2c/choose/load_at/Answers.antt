use Rattle.std.proofs.Common.{◌∙◌, ap, sym}
use Rattle.std.specs.Map.Iter.{deref_pair}
use Rattle.std.specs.Option.{option_map}
use Rattle.tower_pool.proofs.balance.p2c.choose.load_at.Goals as goal

pub returns : goal.returns
returns g c = (_, sym c.get_ready_index.ensures ∙ ap (option_map deref_pair) c.unwrap.ensures, c.load.ensures)
