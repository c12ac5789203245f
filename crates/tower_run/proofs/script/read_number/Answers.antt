use Rattle.std.proofs.Common.{rules, ◌≡◌, ◌≢◌, [], ◌∷◌, sym, ◌∙◌, arith}
use Rattle.tower_run.proofs.Texts.{zero_is, begins, read_ok, read_err, number_is_text}
use Rattle.tower_run.proofs.script.read_number.Goals as goal
use Rattle.tower_run.proofs.script.read_number.Goals.{then-is_empty-via-then-is_empty, then-is_empty-via-else-is_empty+then-text-lt49}

pub returns-then-eq : goal.returns-then-eq
returns-then-eq c = let e : c.args.text.now ≡ 48 ∷ [] = search rules in e ∙ sym zero_is

pub returns-then-is_empty : goal.returns-then-is_empty
returns-then-is_empty c = λ n fits same.
    let other : c.args.text.now ≢ 48 ∷ [] = search rules in
    let is = begins c.args.text.now n fits same other in
    elim c.then-is_empty.branch [
      | then-is_empty-via-then-is_empty w ↦ search rules
      | then-is_empty-via-else-is_empty+then-text-lt49 w ↦ omega arith
    ]

pub returns-in_default : goal.returns-in_default
returns-in_default c = λ n fits same. c.in_default.ensures.cases.0 (number_is_text c.args.text.now n fits same)

pub returns-in-Ok-parse : goal.returns-in-Ok-parse
returns-in-Ok-parse c =
    let parses = rw c.in-Ok.ensures.cases.0 at c.parse.ensures.value.0 in
    read_ok c.args.text.now c.parse.result c.in-Ok-parse.number parses (omega arith) c.in-Ok-parse.is

pub returns-in-Err : goal.returns-in-Err
returns-in-Err c = λ n fits same.
    let parses = rw c.in-Ok.ensures.cases.0 at c.parse.ensures.value.0 in
    read_err c.args.text.now c.parse.result c.in-Err.field-0 n parses c.in-Err.is fits same
