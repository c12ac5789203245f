-- What comes at a latch comes in a run from a new budget with the latch's terms.
use Rattle.std.proofs.Common.{◌≡◌, sym, subst, ◌∙◌}
use Rattle.std.proofs.Math.Logic.{∥∥₁_map}
use Rattle.tower_latch.specs.Latch.{Serves}
use Rattle.tower_latch.specs.LatchLemmas.{is_run}
use Rattle.tower_retry.specs.Budget.{Steps, initial, terms_of}
use Rattle.tower_retry.specs.BudgetCore.{StandsFor}
use Rattle.tower_retry.specs.BudgetTerms.{RunsFromTerms}
use Rattle.tower_retry.specs.BudgetTermsLemmas.{serves_terms}
use Rattle.tower_retry.specs.declared.retry.budget.steps.Terms.{Terms}

pub runs_from_terms : RunsFromTerms
runs_from_terms terms step reply came = ∥∥₁_map came.2 (λ reached.
    let opened = reached.2 in
    let made = opened.3 in
    let own : Terms = terms_of opened.0 opened.1 opened.2 in
    let past = is_run StandsFor Steps reached.0 came.0 reached.1 (initial own made) reached.3 opened.5 in
    let next = came.3.1 past.0 past.2 in
    let same : own ≡ terms = sym (serves_terms (initial own made) past.0 reached.1 past.1) ∙ past.2.terms ∙ came.4 in
    (made, reached.1, past.0, next.0, subst (λ (t : Terms). Serves Steps (initial t made) reached.1 past.0) same past.1, next.1))
