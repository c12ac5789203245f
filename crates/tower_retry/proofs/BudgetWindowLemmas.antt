-- A deposit counts for ten windows.
use Rattle.std.proofs.Common.{◌≡◌, ℕ, zero, suc, ◌+◌, ◌-◌, ◌*◌, ◌/◌, ◌<◌, ◌≤◌, Bool, true, false, List, [], ◌∷◌, ◌++◌, arith, refl, ap, sym, subst, ◌∙◌}
use Rattle.std.specs.Prelude.{pos, neg_ℤ, max, if◌then◌else◌}
use Rattle.std.proofs.Math.Nat.{add-mul-div_right, div-mul-le_self, max-eq_right, zero-div}
use Rattle.std.proofs.lemmas.Nat.{le-div}
use Rattle.std.proofs.lemmas.Bool.Decides.{nat_tests}
use Rattle.tower_latch.specs.Latch.{Serves}
use Rattle.tower_retry.specs.Budget.{Amount, Ledger, Steps, added, advanced, initial, counts, generation_at}
use Rattle.tower_retry.specs.BudgetWindows.{CountsForTenWindows, NeverBack, deposit_at, moment_of}
use Rattle.tower_retry.specs.declared.retry.budget.steps.BudgetStep.{BudgetStep}
use Rattle.tower_retry.specs.declared.retry.budget.steps.BudgetStep.TheVariants.{Deposit, Withdraw}
use Rattle.tower_retry.specs.declared.retry.budget.steps.BudgetReply.{BudgetReply}
use Rattle.tower_retry.specs.declared.retry.budget.steps.BudgetReply.TheVariants.{Done, Allowed}
use Rattle.tower_retry.specs.declared.retry.budget.steps.Terms.{Terms}

quotient_grows : (window a b : ℕ) → 0 < window → a ≤ b → a / window ≤ b / window
quotient_grows window a b some grows = le-div (a / window) b window some (omega (arith, div-mul-le_self a window))

pub generation_grows : (made window a b : ℕ) → 0 < window → a ≤ b → generation_at made window a ≤ generation_at made window b
generation_grows made window a b some grows = quotient_grows window (a - made) (b - made) some (omega arith)

-- so many windows later
pub windows_later : (made window a n : ℕ) → 0 < window → made ≤ a → generation_at made window (a + n * window) ≡ generation_at made window a + n
windows_later made window a n some late =
    let apart : a + n * window - made ≡ a - made + n * window = omega arith in
    rw apart (add-mul-div_right (a - made) n some)

-- what a step at this moment leaves
pub record After (old : Ledger) (moment : ℕ) (new : Ledger) : Type 0 where
  pub terms : new.terms ≡ old.terms
  pub made : new.made ≡ old.made
  pub generation : new.generation ≡ (advanced old moment).generation
  pub newer : List Amount
  pub amounts : new.amounts ≡ newer ++ old.amounts

after_deposit : (old : Ledger) (moment : ℕ) → After old moment (added (advanced old moment) (pos old.terms.deposit))
after_deposit old moment = record {
  terms = refl;
  made = refl;
  generation = refl;
  newer = record { generation = (advanced old moment).generation; amount = pos old.terms.deposit } ∷ [];
  amounts = refl;
}

after_withdrawal : (old : Ledger) (moment : ℕ) (allowed : Bool)
    → After old moment (if allowed then added (advanced old moment) (neg_ℤ (pos old.terms.withdrawal)) else advanced old moment)
after_withdrawal old moment true = record {
  terms = refl;
  made = refl;
  generation = refl;
  newer = record { generation = (advanced old moment).generation; amount = neg_ℤ (pos old.terms.withdrawal) } ∷ [];
  amounts = refl;
}
after_withdrawal old moment false = record { terms = refl; made = refl; generation = refl; newer = []; amounts = refl }

pub after_step : (old : Ledger) (step : BudgetStep) (reply : BudgetReply) (new : Ledger) → Steps old step reply new → After old (moment_of step) new
after_step old (Deposit moment) Done new is = subst (λ (n : Ledger). After old moment n) (sym is) (after_deposit old moment)
after_step old (Deposit moment) (Allowed allowed) new is = absurd is
after_step old (Withdraw moment) Done new is = absurd is
after_step old (Withdraw moment) (Allowed allowed) new is = subst (λ (n : Ledger). After old moment n) (sym is.after) (after_withdrawal old moment allowed)

-- what a run leaves whose readings never go back
pub record Later (old : Ledger) (from to : ℕ) (new : Ledger) : Type 0 where
  pub late : from ≤ to
  pub terms : new.terms ≡ old.terms
  pub made : new.made ≡ old.made
  pub generation : (advanced new to).generation ≡ generation_at old.made old.terms.window to
  pub newer : List Amount
  pub amounts : new.amounts ≡ newer ++ old.amounts

-- at a moment that isn't earlier the generation is that of the moment
pub aligned : (l : Ledger) (from to : ℕ) → 0 < l.terms.window → from ≤ to → l.generation ≡ generation_at l.made l.terms.window from
    → (advanced l to).generation ≡ generation_at l.made l.terms.window to
aligned l from to some late is =
    max-eq_right (subst (λ (g : ℕ). g ≤ generation_at l.made l.terms.window to) (sym is) (generation_grows l.made l.terms.window from to some late))

pub same_at : (a b : Ledger) (moment : ℕ) → a.terms ≡ b.terms → a.made ≡ b.made
    → generation_at a.made a.terms.window moment ≡ generation_at b.made b.terms.window moment
same_at a b moment terms made = rw (terms, made) refl

append_more : (a b c : List Amount) → a ++ (b ++ c) ≡ (a ++ b) ++ c
append_more [] b c = refl
append_more (x ∷ a) b c = ap (λ (l : List Amount). x ∷ l) (append_more a b c)

pub later : (old new : Ledger) (served : List (BudgetStep × BudgetReply)) (from to : ℕ) → 0 < old.terms.window → Serves Steps old served new → NeverBack from served to
    → old.generation ≡ generation_at old.made old.terms.window from → Later old from to new
later old new [] from to some run never is = subst (λ (n : Ledger). Later old from to n) (sym run) (record {
  late = never;
  terms = refl;
  made = refl;
  generation = aligned old from to some never is;
  newer = [];
  amounts = refl;
})
later old new (entry ∷ rest) from to some run never is =
    let moment = moment_of entry.0 in
    let mid = run.0 in
    let first = after_step old entry.0 entry.1 mid run.1 in
    let terms = first.terms in
    let made = first.made in
    let some_mid = subst (λ (t : Terms). 0 < t.window) (sym terms) some in
    let mid_is = first.generation ∙ aligned old from moment some never.0 is ∙ sym (same_at mid old moment terms made) in
    let more = later mid new rest moment to some_mid run.2 never.1 mid_is in
    record {
      late = omega (arith, never.0, more.late);
      terms = more.terms ∙ terms;
      made = more.made ∙ made;
      generation = more.generation ∙ same_at mid old to terms made;
      newer = more.newer ++ first.newer;
      amounts = more.amounts ∙ ap (λ (l : List Amount). more.newer ++ l) first.amounts ∙ append_more more.newer first.newer old.amounts;
    }

pub counts_near : (g there here : ℕ) (a : Amount) → a.generation ≡ there → g ≡ here → there ≤ here → here ≤ there + 10 → counts g a ≡ true
counts_near g there here a own is low high =
    let after_it : a.generation ≤ g = omega arith in
    let within : g ≤ a.generation + 10 = omega arith in
    grind (arith, nat_tests)

pub counts_no_more : (g there here : ℕ) (a : Amount) → a.generation ≡ there → g ≡ here → there + 11 ≤ here → counts g a ≡ false
counts_no_more g there here a own is far =
    let past : a.generation + 11 ≤ g = omega arith in
    grind (arith, nat_tests)

pub counts_for_ten_windows : CountsForTenWindows
counts_for_ten_windows terms made deposited moment before after past next now some before_run early step after_run late =
    let window = terms.window in
    let opening = initial terms made in
    let no_gap : made - made ≡ 0 = omega arith in
    let at_first : 0 ≡ (made - made) / window = rw no_gap (sym (zero-div window)) in
    let first = later opening past before made deposited some before_run early at_first in
    let there = after_step past (Deposit deposited) Done next step in
    let next_terms = there.terms ∙ first.terms in
    let next_made = there.made ∙ first.made in
    let next_some = subst (λ (t : Terms). 0 < t.window) (sym next_terms) some in
    let next_is = there.generation ∙ first.generation ∙ sym (same_at next opening deposited next_terms next_made) in
    let rest = later next now after deposited moment next_some after_run late next_is in
    let is = rest.generation ∙ same_at next opening moment next_terms next_made in
    let amounts : next.amounts ≡ deposit_at past deposited ∷ past.amounts = ap (λ (l : Ledger). l.amounts) step in (
      rest.newer,
      rest.amounts ∙ ap (λ (l : List Amount). rest.newer ++ l) amounts,
      λ near. counts_near _ (generation_at made window deposited) (generation_at made window moment) (deposit_at past deposited) first.generation is
          (generation_grows made window deposited moment some rest.late)
          (subst (λ (g : ℕ). generation_at made window moment ≤ g) (windows_later made window deposited 10 some first.late)
          (generation_grows made window moment (deposited + 10 * window) some near)),
      λ far. counts_no_more _ (generation_at made window deposited) (generation_at made window moment) (deposit_at past deposited) first.generation is
          (subst (λ (g : ℕ). g ≤ generation_at made window moment) (windows_later made window deposited 11 some first.late)
          (generation_grows made window (deposited + 11 * window) moment some far)),
    )
