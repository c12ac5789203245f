use Rattle.tower_base.specs.Driver.{state_of}
use Rattle.tower_laws.proofs.limited.drive_within_limit.Goals as goal

pub release_living-requires : goal.release_living-requires
release_living-requires g c =
    let entries = c.in_ok-transcript.transcript.entries.items in
    let last = state_of c.in_ok-transcript.driver in
    c.law.ensures c.args.semaphore.now c.args.stack c.args.outside c.args.events.items entries last c.requires.over c.in_ok-transcript.ensures.run
