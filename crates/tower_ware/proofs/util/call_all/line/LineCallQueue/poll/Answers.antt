use Rattle.std.proofs.lemmas.List.Elements.{All-drop, All-set}
use Rattle.tower_ware.specs.OrderedCalls.{MayAsk}
use Rattle.tower_ware.proofs.util.call_all.line.LineCallQueue.poll.Goals as goal

pub returns-clause-sound : goal.returns-clause-sound
returns-clause-sound g c =
    rw c.pop_front.ensures.rest (All-drop (MayAsk g.F.Steps.can_poll) 1 _
    (All-set (MayAsk g.F.Steps.can_poll) _ 0 _ c.ask.ensures.again (rw (← c.self.view_is) at c.requires)))
