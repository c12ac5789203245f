use Rattle.std.proofs.Common.{◌<◌, length, remove, refl, arith}
use Rattle.std.proofs.lemmas.List.Edits.{length-remove}
use Rattle.tower_limit.proofs.load.pending_requests.count_core.CountCore.give.Goals as goal

pub returns : goal.returns
returns c = λ plain stands.
    let some : 0 < length plain = omega (arith, stands) in
    (remove plain 0, (0, some, refl), omega (arith, stands, length-remove plain 0 some))
