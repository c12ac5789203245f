use Rattle.tower_run.proofs.Texts.{word_is_text}
use Rattle.tower_run.proofs.script.read_word.Goals as goal

pub returns-in-Err : goal.returns-in-Err
returns-in-Err c = λ is. c.in-Err.ensures.cases.0 (word_is_text c.args.text.now is.2)
