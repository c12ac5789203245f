-- Items that were gathered from nothing on.
use Rattle.std.proofs.Common.{◌≡◌, List, [], ◌++◌}

pub gathered : {X : Type 0} (items before gave : List X) → items ≡ before ++ gave → before ≡ [] → items ≡ gave
gathered items before gave all none = rw none at all
