use Rattle.std.proofs.Common.{rules}
use Rattle.tower_base.specs.GivesLemmas.{gives_same, gives_value}
use Rattle.tower_ware.proofs.reconnect.iterate_once.Goals as goal

pub returns-in-Pending-step-clause-sound : goal.returns-in-Pending-step-clause-sound
returns-in-Pending-step-clause-sound g c =
    let state = rw c.in-Connecting.is at c.requires.state in
    let same = gives_same g.M.Future.Steps.stepped _ _ _ c.in-Pending-step.ensures.step in
    record {
      maker = search rules;
      state = (search rules, λ service gives. state.1 service (same _ gives));
      makes = c.requires.makes;
    }

pub returns-in-Ready-Ok-step-clause-sound : goal.returns-in-Ready-Ok-step-clause-sound
returns-in-Ready-Ok-step-clause-sound g c =
    let state = rw c.in-Connecting.is at c.requires.state in
    let value = gives_value g.M.Future.Steps.stepped _ _ _ (rw c.in-Ready-Ok-step.field-0-is at c.in-Ready-Ok-step.ensures.step) in
    record {
      maker = search rules;
      state = state.1 _ value;
      makes = c.requires.makes;
    }
