use Rattle.std.proofs.Common.{rules}
use Rattle.tower_run.proofs.Shapes.{one, four}
use Rattle.tower_run.proofs.words.Task.of.Goals as goal

pub returns-in_ok-named-in-len1 : goal.returns-in_ok-named-in-len1
returns-in_ok-named-in-len1 c = (c.name-item.result, one _ _ c.in-len1.len_at_least c.in-len1.len_below c.name-item.is, search rules)

pub returns-in_ok-storm-in-len4 : goal.returns-in_ok-storm-in-len4
returns-in_ok-storm-in-len4 c =
    let name = c.name-item-then-words-lt5 in
    let words = four _ _ _ _ _ c.in-len4.len_at_least c.in-len4.len_below name.is c.threads-item.is c.rounds-item.is c.permits-item.is in
    (name.result, c.threads-item.result, c.rounds-item.result, c.permits-item.result, words, search rules, search rules)
