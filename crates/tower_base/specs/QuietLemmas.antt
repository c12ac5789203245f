-- What follows of polls that ask for another poll only for a cause.
use Rattle.tower_base.specs.Quiet.{Ever}

-- A poll that may ask for another poll is some such poll.
pub ever : {T : Type 0} (stirs : T → T → Type 0) (old new : T) → stirs old new → Ever stirs
unfolding Ever
ever stirs old new h = (old, new, h)
