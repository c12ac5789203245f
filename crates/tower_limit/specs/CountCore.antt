-- Which holders a `CountCore` stands for.
use Rattle.std.specs.Prelude.{◌≡◌, List, [], length}
use Rattle.tower_limit.specs.Holders.{Holder}
use Rattle.tower_limit.specs.declared.load.pending_requests.count_core.CountCore.{CountCore}

-- The core counts as many holders as the list has.
abbrev pub StandsFor : CountCore → List Holder → Type 0
StandsFor core holders = length holders ≡ core.count

-- No holder was counted yet.
abbrev pub Opens : CountCore → Type 0
Opens core = StandsFor core []
