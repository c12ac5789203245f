-- What withdrawals cost is bounded by the reserve and by what deposits brought.
use Rattle.std.proofs.Common.{◌≡◌, ℕ, zero, suc, ◌+◌, ◌-◌, ◌*◌, ◌/◌, ◌^◌, length, ◌<◌, ◌≤◌, Bool, true, false, true≢false, List, [], ◌∷◌, arith, refl, sym, subst, ◌∙◌, take}
use Rattle.std.specs.Prelude.{ℤ, pos, neg_ℤ, nat_abs, ◌+ℤ◌, ◌≤ℤ◌, int_le, nat_le, nat_lt, if◌then◌else◌}
use Rattle.std.proofs.Math.Nat.{zero-div}
use Rattle.std.proofs.lemmas.Int.{ints}
use Rattle.std.proofs.lemmas.Bool.Decides.{nat_tests}
use Rattle.std.proofs.Math.Logic.{∥∥₁_map}
use Rattle.tower_latch.specs.HistoryLemmas.{serves_at, plain_run}
use Rattle.tower_latch.specs.Latch.{Serves}
use Rattle.tower_retry.specs.Budget.{Amount, Ledger, Steps, advanced, initial, counts, generation_at, size, total}
use Rattle.tower_retry.specs.BudgetBound.{RetriesBounded, BoundedAtLatch, BoundedInHistory, cost, gain, spent, earned}
use Rattle.tower_retry.specs.BudgetCore.{StandsFor, Opens}
use Rattle.tower_retry.specs.BudgetTermsLemmas.{serves_terms, step_terms}
use Rattle.tower_retry.proofs.BudgetTermsRuns.{runs_from_terms}
use Rattle.tower_retry.specs.BudgetWindows.{NeverBack, moment_of}
use Rattle.tower_retry.proofs.BudgetWindowLemmas.{generation_grows, windows_later, aligned, same_at, after_step, later, counts_near, counts_no_more}
use Rattle.tower_retry.specs.declared.retry.budget.steps.BudgetStep.{BudgetStep}
use Rattle.tower_retry.specs.declared.retry.budget.steps.BudgetStep.TheVariants.{Deposit, Withdraw}
use Rattle.tower_retry.specs.declared.retry.budget.steps.BudgetReply.{BudgetReply}
use Rattle.tower_retry.specs.declared.retry.budget.steps.BudgetReply.TheVariants.{Done, Allowed}
use Rattle.tower_retry.specs.declared.retry.budget.steps.Terms.{Terms}

-- a sum grows by no more than what is earned, and falls by what is spent
abbrev Grows : ℤ → ℕ → ℕ → ℤ → Type 0
Grows old spends earns new = (new +ℤ pos spends) ≤ℤ (old +ℤ pos earns)

deposits : (sum : ℤ) (d : ℕ) (counted near close : Bool) → (close ≡ false → counted ≡ false)
    → Grows sum (if near then 0 else 0) (if close then d else 0) ((if counted then pos d else pos 0) +ℤ sum)
deposits sum d true true true may = omega (arith, ints)
deposits sum d true false true may = omega (arith, ints)
deposits sum d true near false may = absurd (true≢false (may refl))
deposits sum d false true true may = omega (arith, ints)
deposits sum d false true false may = omega (arith, ints)
deposits sum d false false true may = omega (arith, ints)
deposits sum d false false false may = omega (arith, ints)

withdraws : (sum : ℤ) (w : ℕ) (counted near close : Bool) → (near ≡ true → counted ≡ true)
    → Grows sum (if near then w else 0) (if close then 0 else 0) ((if counted then neg_ℤ (pos w) else pos 0) +ℤ sum)
withdraws sum w true true true must = omega (arith, ints)
withdraws sum w true true false must = omega (arith, ints)
withdraws sum w true false true must = omega (arith, ints)
withdraws sum w true false false must = omega (arith, ints)
withdraws sum w false true close must = absurd (true≢false (sym (must refl)))
withdraws sum w false false true must = omega (arith, ints)
withdraws sum w false false false must = omega (arith, ints)

stays : (sum : ℤ) (near close : Bool) → Grows sum (if near then 0 else 0) (if close then 0 else 0) sum
stays sum true true = omega (arith, ints)
stays sum true false = omega (arith, ints)
stays sum false true = omega (arith, ints)
stays sum false false = omega (arith, ints)

-- what is added at this moment, at which the generation is that of the moment
module _ (old : Ledger) (moment to : ℕ) (some : 0 < old.terms.window) (early : old.made ≤ moment) (order : moment ≤ to)
    (is : (advanced old moment).generation ≡ generation_at old.made old.terms.window moment) (g : ℕ) (g_is : g ≡ generation_at old.made old.terms.window to) where
  abbrev own : ℤ → Amount
  own amount = record { generation = (advanced old moment).generation; amount = amount }

  near_counts : (amount : ℤ) → nat_le to (moment + 10 * old.terms.window) ≡ true → counts g (own amount) ≡ true
  near_counts amount near =
      counts_near g (generation_at old.made old.terms.window moment) (generation_at old.made old.terms.window to) (own amount) is g_is
      (generation_grows old.made old.terms.window moment to some order)
      (subst (λ (n : ℕ). generation_at old.made old.terms.window to ≤ n) (windows_later old.made old.terms.window moment 10 some early)
      (generation_grows old.made old.terms.window to (moment + 10 * old.terms.window) some (grind (arith, nat_tests))))

  far_counts_no_more : (amount : ℤ) → nat_lt to (moment + 11 * old.terms.window) ≡ false → counts g (own amount) ≡ false
  far_counts_no_more amount far =
      counts_no_more g (generation_at old.made old.terms.window moment) (generation_at old.made old.terms.window to) (own amount) is g_is
      (subst (λ (n : ℕ). n ≤ generation_at old.made old.terms.window to) (windows_later old.made old.terms.window moment 11 some early)
      (generation_grows old.made old.terms.window (moment + 11 * old.terms.window) to some (grind (arith, nat_tests))))

module _ (g to : ℕ) where
  one_step : (old : Ledger) (step : BudgetStep) (reply : BudgetReply) (new : Ledger) → Steps old step reply new
      → 0 < old.terms.window → old.made ≤ moment_of step → moment_of step ≤ to
      → (advanced old (moment_of step)).generation ≡ generation_at old.made old.terms.window (moment_of step) → g ≡ generation_at old.made old.terms.window to
      → Grows (total g old.amounts) (if nat_le to (moment_of step + 10 * old.terms.window) then cost old.terms.withdrawal reply else 0)
      (if nat_lt to (moment_of step + 11 * old.terms.window) then gain old.terms.deposit step else 0) (total g new.amounts)
  one_step old (Deposit moment) Done new made some early order is g_is =
      subst (λ (l : Ledger). Grows (total g old.amounts) (if nat_le to (moment + 10 * old.terms.window) then 0 else 0) (if nat_lt to (moment + 11 * old.terms.window) then old.terms.deposit else 0) (total g l.amounts)) (sym made)
      (deposits (total g old.amounts) old.terms.deposit _ _ _ (far_counts_no_more old moment to some early order is g g_is (pos old.terms.deposit)))
  one_step old (Deposit moment) (Allowed allowed) new made some early order is g_is = absurd made
  one_step old (Withdraw moment) Done new made some early order is g_is = absurd made
  one_step old (Withdraw moment) (Allowed true) new made some early order is g_is =
      subst (λ (l : Ledger). Grows (total g old.amounts) (if nat_le to (moment + 10 * old.terms.window) then old.terms.withdrawal else 0) (if nat_lt to (moment + 11 * old.terms.window) then 0 else 0) (total g l.amounts)) (sym made.after)
      (withdraws (total g old.amounts) old.terms.withdrawal _ _ _ (near_counts old moment to some early order is g g_is (neg_ℤ (pos old.terms.withdrawal))))
  one_step old (Withdraw moment) (Allowed false) new made some early order is g_is =
      subst (λ (l : Ledger). Grows (total g old.amounts) (if nat_le to (moment + 10 * old.terms.window) then 0 else 0) (if nat_lt to (moment + 11 * old.terms.window) then 0 else 0) (total g l.amounts)) (sym made.after)
      (stays (total g old.amounts) _ _)

  joined : (old mid new : ℤ) (a b c d : ℕ) → Grows old a b mid → Grows mid c d new → Grows old (a + c) (b + d) new
  joined old mid new a b c d first more = omega (arith, ints, first, more)

  all_steps : (old new : Ledger) (served : List (BudgetStep × BudgetReply)) (from : ℕ) → Serves Steps old served new → NeverBack from served to
      → 0 < old.terms.window → old.made ≤ from → old.generation ≡ generation_at old.made old.terms.window from → g ≡ generation_at old.made old.terms.window to
      → Grows (total g old.amounts) (spent old.terms.withdrawal (10 * old.terms.window) to served) (earned old.terms.deposit (11 * old.terms.window) to served) (total g new.amounts)
  all_steps old new [] from run never some early is g_is =
      subst (λ (l : Ledger). Grows (total g old.amounts) 0 0 (total g l.amounts)) (sym run) (stays (total g old.amounts) true true)
  all_steps old new (entry ∷ rest) from run never some early is g_is =
      let moment = moment_of entry.0 in
      let mid = run.0 in
      let first = after_step old entry.0 entry.1 mid run.1 in
      let terms = first.terms in
      let made = first.made in
      let own = aligned old from moment some never.0 is in
      let mid_is = first.generation ∙ own ∙ sym (same_at mid old moment terms made) in
      let mid_some = subst (λ (t : Terms). 0 < t.window) (sym terms) some in
      let order = (later mid new rest moment to mid_some run.2 never.1 mid_is).late in
      let mid_early : mid.made ≤ moment = omega (arith, never.0, early, made) in
      let now : old.made ≤ moment = omega (arith, never.0, early) in
      let more = all_steps mid new rest moment run.2 never.1 mid_some mid_early mid_is (g_is ∙ sym (same_at mid old to terms made)) in
      let step = one_step old entry.0 entry.1 mid run.1 some now order own g_is in
      joined (total g old.amounts) (total g mid.amounts) (total g new.amounts) _ _ _ _ step
      (subst (λ (t : Terms). Grows (total g mid.amounts) (spent t.withdrawal (10 * t.window) to rest) (earned t.deposit (11 * t.window) to rest) (total g new.amounts)) terms more)

affords : (w r s e : ℕ) (sum : ℤ) → true ≡ int_le (pos w) (pos r +ℤ sum) → Grows (pos 0) s e sum → w + s ≤ r + e
affords w r s e sum enough grew = grind (arith, ints)

-- The sizes of the amounts grow by less than 2 ^ 46 in each step.
abs_neg : (n : ℕ) → nat_abs (neg_ℤ (pos n)) ≡ n
abs_neg zero = refl
abs_neg (suc n) = refl

part : (b : Bool) (n s : ℕ) → n < 2 ^ 46 → (if b then n else 0) + s ≤ s + 2 ^ 46
part true n s small = omega (arith, small)
part false n s small = omega (arith, small)

grown : (g : ℕ) (old : Ledger) (step : BudgetStep) (reply : BudgetReply) (new : Ledger) → Steps old step reply new → old.terms.deposit < 2 ^ 46 → old.terms.withdrawal < 2 ^ 46
    → size g new.amounts ≤ size g old.amounts + 2 ^ 46
grown g old (Deposit moment) Done new made d w =
    subst (λ (l : Ledger). size g l.amounts ≤ size g old.amounts + 2 ^ 46) (sym made) (part _ old.terms.deposit (size g old.amounts) d)
grown g old (Deposit moment) (Allowed allowed) new made d w = absurd made
grown g old (Withdraw moment) Done new made d w = absurd made
grown g old (Withdraw moment) (Allowed true) new made d w =
    let counted = counts g (record { generation = (advanced old moment).generation; amount = neg_ℤ (pos old.terms.withdrawal) }) in
    subst (λ (l : Ledger). size g l.amounts ≤ size g old.amounts + 2 ^ 46) (sym made.after)
    (subst (λ (n : ℕ). (if counted then n else 0) + size g old.amounts ≤ size g old.amounts + 2 ^ 46) (sym (abs_neg old.terms.withdrawal)) (part counted old.terms.withdrawal (size g old.amounts) w))
grown g old (Withdraw moment) (Allowed false) new made d w =
    subst (λ (l : Ledger). size g l.amounts ≤ size g old.amounts + 2 ^ 46) (sym made.after) (omega arith)

all_grown : (g : ℕ) (old new : Ledger) (served : List (BudgetStep × BudgetReply)) → Serves Steps old served new → old.terms.deposit < 2 ^ 46 → old.terms.withdrawal < 2 ^ 46
    → size g new.amounts ≤ size g old.amounts + 2 ^ 46 * length served
all_grown g old new [] run d w = subst (λ (l : Ledger). size g l.amounts ≤ size g old.amounts + 2 ^ 46 * 0) (sym run) (omega arith)
all_grown g old new (entry ∷ rest) run d w =
    let same = step_terms old entry.0 entry.1 run.0 run.1 in
    let first = grown g old entry.0 entry.1 run.0 run.1 d w in
    let more = all_grown g run.0 new rest run.2 (subst (λ (t : Terms). t.deposit < 2 ^ 46) (sym same) d) (subst (λ (t : Terms). t.withdrawal < 2 ^ 46) (sym same) w) in
    both (size g old.amounts) (size g run.0.amounts) (size g new.amounts) (length rest) first more
  where
    both : (a b c n : ℕ) → b ≤ a + 2 ^ 46 → c ≤ b + 2 ^ 46 * n → c ≤ a + 2 ^ 46 * suc n
    both a b c n p q = omega (arith, p, q)

pub retries_bounded : RetriesBounded
retries_bounded terms made moment served past next some run step never few =
    let opening = initial terms made in
    let no_gap : made - made ≡ 0 = omega arith in
    let at_first : 0 ≡ (made - made) / terms.window = rw no_gap (sym (zero-div terms.window)) in
    let all = later opening past served made moment some run never at_first in
    let g : ℕ = (advanced past moment).generation in
    let same : past.terms ≡ terms = serves_terms opening past served run in
    let sizes : size g past.amounts ≤ 0 + 2 ^ 46 * length served = all_grown g opening past served run few.0.deposit few.0.withdrawal in
    let exact : past.terms.reserve + size g past.amounts < 2 ^ 127 = subst (λ (t : Terms). t.reserve + size g past.amounts < 2 ^ 127) (sym same) (small terms.reserve _ (length served) few.0.reserve few.1 sizes) in
    let enough : true ≡ int_le (pos terms.withdrawal) (pos terms.reserve +ℤ total g past.amounts) =
    subst (λ (t : Terms). true ≡ int_le (pos t.withdrawal) (pos t.reserve +ℤ total g past.amounts)) same (step.made exact) in
    affords terms.withdrawal terms.reserve _ _ (total g past.amounts) enough
    (all_steps g moment opening past served made run never some (omega arith) at_first all.generation)
  where
    small : (r s n : ℕ) → r < 2 ^ 126 → n < 2 ^ 80 → s ≤ 0 + 2 ^ 46 * n → r + s < 2 ^ 127
    small r s n a b c = omega (arith, a, b, c)

pub bounded_at_latch : BoundedAtLatch
bounded_at_latch terms moment some came = ∥∥₁_map (runs_from_terms terms (Withdraw moment) (Allowed true) came)
    (λ run. (run.0, run.1, run.2, run.4, λ never few. retries_bounded terms run.0 moment run.1 run.2 run.3 some run.4 run.5 never few))

pub bounded_in_history : BoundedInHistory
bounded_in_history terms made budget opening history some held is legal place moment at never few =
    let run = plain_run Opens StandsFor Steps budget (initial terms made) opening history held is legal in
    let here = serves_at Steps (initial terms made) run.0 history place (Withdraw moment) (Allowed true) run.1 at in
    retries_bounded terms made moment (take place history) here.0 here.1 some here.2 here.3 never few
