use Rattle.std.proofs.Common.{rules, arith, ◌≡◌, decimal}
use Rattle.std.proofs.lemmas.Fmt.{decimal_injective}
use Rattle.tower_run.proofs.storm.Storm.parse.Goals as goal
use Rattle.tower_run.proofs.storm.Storm.parse.Goals.{then-contains, else-contains, then-rounds-le-MAX_ROUNDS, else-rounds-le-MAX_ROUNDS}

pub returns-then-not-fits : goal.returns-then-not-fits
returns-then-not-fits c = λ t r p fits written.
    let first : decimal c.in_ok-threads.threads ≡ decimal t = search rules in
    let second : decimal c.in_ok-rounds.rounds ≡ decimal r = search rules in
    let third : decimal c.in_ok-permits.permits ≡ decimal p = search rules in
    let threads : c.in_ok-threads.threads ≡ t = decimal_injective _ _ (omega arith) (omega arith) first in
    let rounds : c.in_ok-rounds.rounds ≡ r = decimal_injective _ _ (omega arith) (omega arith) second in
    let permits : c.in_ok-permits.permits ≡ p = decimal_injective _ _ (omega arith) (omega arith) third in
    elim c.if-rounds-le-MAX_ROUNDS.branch [
      | then-rounds-le-MAX_ROUNDS w ↦ search rules
      | else-rounds-le-MAX_ROUNDS w ↦ search rules
    ]
