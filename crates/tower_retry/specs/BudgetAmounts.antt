-- How large the amounts of a budget are.
use Rattle.std.specs.Prelude.{◌<◌, ◌^◌}
use Rattle.tower_retry.specs.declared.retry.budget.steps.Terms.{Terms}

-- Sums of 2 ^ 80 such amounts are exact in 128 bits.
pub record AreSmall (terms : Terms) : Type 0 where
  pub deposit : terms.deposit < 2 ^ 46
  pub withdrawal : terms.withdrawal < 2 ^ 46
  pub reserve : terms.reserve < 2 ^ 126
