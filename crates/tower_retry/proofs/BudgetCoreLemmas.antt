-- Cores and the ledgers that they stand for.
use Rattle.std.proofs.Common.{◌≡◌, ℕ, zero, suc, ◌+◌, ◌-◌, ◌<◌, ◌≤◌, ◌^◌, ◌⊎◌, nat_lt, true, false, List, [], ◌∷◌, arith, refl, ap, sym, subst, ◌∙◌, Bool, inl, inr, ◌/◌, ◌*◌, ◌%◌}
use Rattle.std.specs.Prelude.{ℤ, pos, int_le, ◌+ℤ◌, nat_abs, nat_eq, max, min, if◌then◌else◌}
use Rattle.std.specs.Int.{w128, saturate_signed}
use Rattle.std.proofs.Math.Nat.{max-eq_left, max-eq_right, zero-div}
use Rattle.std.proofs.lemmas.Nat.{div-add-mod', div_below, le-div}
use Rattle.std.proofs.lemmas.Int.{ints}
use Rattle.std.proofs.lemmas.Bool.{le-ltb, lt-ltb, ltb-false, ltb-true}
use Rattle.std.proofs.lemmas.Bool.Decides.{nat_tests, leb_tells}
use Rattle.tower_latch.specs.LatchLemmas.{is_run}
use Rattle.tower_retry.proofs.BudgetLemmas.{exact, older_sum, other_size, other_sum, size_parts, sum_size, total_parts}
use Rattle.tower_retry.proofs.SlotLemmas.{back_size, none_keeps, saturates, triangle}
use Rattle.tower_retry.specs.Budget.{Amount, Ledger, added, advanced, generation_at, IsExact, Steps, balance}
use Rattle.tower_retry.specs.BudgetCore.{StandsFor, SumsKept, kept_balance}
use Rattle.tower_retry.specs.Slots.{Each, Keeps, Shifted, kept_sum, size_back, slot, sum_back}
use Rattle.tower_retry.specs.declared.retry.budget.budget_core.BudgetCore.{BudgetCore}
use Rattle.tower_retry.specs.declared.retry.budget.steps.Terms.{Terms}

-- what a core keeps is the balance of each ledger that it stands for
pub balances : (core : BudgetCore) (l : Ledger) → StandsFor core l → IsExact l → kept_balance core ≡ balance l
balances core l s small =
    let g = l.generation in
    let xs = l.amounts in
    let terms : core.terms.reserve ≡ l.terms.reserve = sym (ap (λ (t : Terms). t.reserve) s.terms) in
    let sizes = size_parts g xs in
    let totals = total_parts g xs in
    let present : core.present ≡ sum_back g 0 xs = s.present (omega arith) in
    let slots = exact g core.slots.index xs core.slots.amounts.items (pos core.terms.reserve) s.slots 10 (omega arith) (omega arith) in
    let sum : kept_sum (pos core.terms.reserve) core.slots.index core.slots.amounts.items 10 +ℤ core.present ≡ balance l =
    rw (slots, present, terms, totals) (omega (arith, ints)) in
    let bound : nat_abs (balance l) < 2 ^ 127 =
    rw totals (omega (arith, ints, triangle (pos l.terms.reserve) (older_sum g 10 xs +ℤ sum_back g 0 xs), triangle (older_sum g 10 xs) (sum_back g 0 xs), sum_size g 10 xs, back_size g 0 xs)) in
    rw sum (saturates _ bound)

-- a core stands for the ledger of what it keeps

kept_amounts : ℕ → ℕ → List ℤ → ℕ → List Amount
kept_amounts g i slots zero = []
kept_amounts g i slots (suc n) = record { generation = g - suc n; amount = slot i slots (suc n) } ∷ kept_amounts g i slots n

-- nothing was added before the first generation
abbrev pub Begun : ℕ → ℕ → List ℤ → Type 0
Begun g i slots = (back : ℕ) → g < back → back ≤ 10 → slot i slots back ≡ pos 0

no_part : (b : Bool) (z : ℤ) → z ≡ pos 0 → (if b then z else pos 0) ≡ pos 0
no_part true z none = none
no_part false z none = refl

others : (g i : ℕ) (slots : List ℤ) (n b : ℕ) → Begun g i slots → n ≤ 10 → (b ≡ 0) ⊎ (n < b) → sum_back g b (kept_amounts g i slots n) ≡ pos 0
unfolding kept_amounts
others g i slots zero b begun few other = refl
others g i slots (suc n) b begun few other =
    let rest = others g i slots n b begun (omega arith) (elim other [ inl none ↦ inl none | inr far ↦ inr (omega arith) ]) in
    let here : (if nat_eq (g - suc n + b) g then slot i slots (suc n) else pos 0) ≡ pos 0 =
    elim (leb_tells (suc n) g) [
      | inl there ↦
          let no : nat_eq (g - suc n + b) g ≡ false = elim other [ inl none ↦ grind (arith, nat_tests) | inr far ↦ grind (arith, nat_tests) ] in
          rw no refl
      | inr before ↦ no_part (nat_eq (g - suc n + b) g) (slot i slots (suc n)) (begun (suc n) (omega arith) few)
    ] in
    rw (here, rest) refl

own : (g i : ℕ) (slots : List ℤ) (n b : ℕ) → Begun g i slots → n ≤ 10 → 1 ≤ b → b ≤ n → sum_back g b (kept_amounts g i slots n) ≡ slot i slots b
unfolding kept_amounts
own g i slots zero b begun few some within = absurd (omega arith)
own g i slots (suc n) b begun few some within =
    elim (leb_tells (suc n) g) [
      | inl there ↦ elim (leb_tells b n) [
        | inl low ↦
            let no : nat_eq (g - suc n + b) g ≡ false = grind (arith, nat_tests) in
            other_sum g b _ (kept_amounts g i slots n) no ∙ own g i slots n b begun (omega arith) some (omega arith)
        | inr last ↦
            let is : b ≡ suc n = omega arith in
            let yes : nat_eq (g - suc n + b) g ≡ true = grind (arith, nat_tests) in
            rw (yes, others g i slots n b begun (omega arith) (inr (omega arith)), is) (omega (arith, ints))
      ]
      | inr before ↦
          let none : slot i slots (suc n) ≡ pos 0 = begun (suc n) (omega arith) few in
          let here = no_part (nat_eq (g - suc n + b) g) (slot i slots (suc n)) none in
          let rest : sum_back g b (kept_amounts g i slots n) ≡ slot i slots b = elim (leb_tells b n) [
            | inl low ↦ own g i slots n b begun (omega arith) some (omega arith)
            | inr last ↦ others g i slots n b begun (omega arith) (inr (omega arith)) ∙ sym (begun b (omega arith) (omega arith))
          ] in
          rw (here, rest) (omega (arith, ints))
    ]

all_early : (g i : ℕ) (slots : List ℤ) (n : ℕ) → Each (λ a. a.generation ≤ g) (kept_amounts g i slots n)
unfolding kept_amounts
all_early g i slots zero = tt
all_early g i slots (suc n) = (omega arith, all_early g i slots n)

pub itself : (core : BudgetCore) → (l : Ledger) × StandsFor core l
itself core =
    let g = core.generation in
    let i = core.slots.index in
    let slots = core.slots.amounts.items in
    let older_amounts = kept_amounts g i slots 10 in
    let newest : Amount = record { generation = g; amount = core.present } in
    let yes : nat_eq (g + 0) g ≡ true = grind (arith, nat_tests) in (
      record { terms = core.terms; made = core.made; generation = g; amounts = newest ∷ older_amounts },
      record {
        terms = refl;
        made = refl;
        generation = refl;
        present = λ small. rw (yes, others g i slots 10 0 core.begun (omega arith) (inl refl)) (omega (arith, ints));
        slots = record {
          none_later = (omega arith, all_early g i slots 10);
          each = λ back some few. λ small.
              let no : nat_eq (g + back) g ≡ false = grind (arith, nat_tests) in
              sym (other_sum g back newest older_amounts no ∙ own g i slots 10 back core.begun (omega arith) some few);
        };
      },
    )

-- no amount is of a generation before the first
early_sum : (g b : ℕ) (xs : List Amount) → g < b → sum_back g b xs ≡ pos 0
early_sum g b [] early = refl
early_sum g b (a ∷ rest) early =
    let no : nat_eq (a.generation + b) g ≡ false = grind (arith, nat_tests) in
    other_sum g b a rest no ∙ early_sum g b rest early

early_size : (g b : ℕ) (xs : List Amount) → g < b → size_back g b xs ≡ 0
early_size g b [] early = refl
early_size g b (a ∷ rest) early =
    let no : nat_eq (a.generation + b) g ≡ false = grind (arith, nat_tests) in
    other_size g b a rest no ∙ early_size g b rest early

pub begun_later : (old : BudgetCore) (n j : ℕ) (present : ℤ) (new : List ℤ) → present ≡ old.present
    → Shifted n present old.slots.index old.slots.amounts.items j new → Begun (old.generation + n) j new
begun_later old n j present new is moves = λ back early few.
    let plain = itself old in
    let l = plain.0 in
    let s = plain.1 in
    let same : l.generation ≡ old.generation = s.generation in
    let early_there : l.generation + n < back = rw same early in
    let slots = moves l.generation l.amounts (rw is s.present) s.slots in
    let none = early_size (l.generation + n) back l.amounts early_there in
    slots.each back (omega arith) few (rw none (omega arith)) ∙ early_sum (l.generation + n) back l.amounts early_there

pub sums_kept : SumsKept
sums_kept old new served plain serves stands =
    let run = is_run StandsFor Steps old new served plain serves stands in
    (run.0, run.1, λ small. balances new run.0 run.2 small)

-- a further amount of the present generation
pub adds : (old new : BudgetCore) (l : Ledger) (amount : ℤ) → new.present ≡ saturate_signed w128 (old.present +ℤ amount) → StandsFor old l
    → new.terms ≡ old.terms → new.made ≡ old.made → new.generation ≡ old.generation → new.slots ≡ old.slots → StandsFor new (added l amount)
adds old new l amount is s terms made generation slots =
    let g = l.generation in
    let xs = l.amounts in
    let yes : nat_eq (g + 0) g ≡ true = grind (arith, nat_tests) in
    record {
      terms = s.terms ∙ sym terms;
      made = s.made ∙ sym made;
      generation = s.generation ∙ sym generation;
      present = λ small. is ∙ rw yes (exact_more g xs old.present amount s.present (rw yes at small));
      slots = rw slots (record {
        none_later = (omega arith, s.slots.none_later);
        each = λ back some few. λ small.
            let no : nat_eq (g + back) g ≡ false = grind (arith, nat_tests) in
            let newest : Amount = record { generation = g; amount = amount } in
            let less : size_back g back xs < 2 ^ 127 = subst (λ (n : ℕ). n < 2 ^ 127) (other_size g back newest xs no) small in
            s.slots.each back some few less ∙ sym (other_sum g back newest xs no);
      });
    }
  where
    exact_more : (g : ℕ) (xs : List Amount) (kept more : ℤ) → Keeps g 0 xs kept → nat_abs more + size_back g 0 xs < 2 ^ 127
        → saturate_signed w128 (kept +ℤ more) ≡ more +ℤ sum_back g 0 xs
    exact_more g xs kept more k small =
        let here : kept ≡ sum_back g 0 xs = k (omega arith) in
        let bound : nat_abs kept ≤ size_back g 0 xs = rw here (back_size g 0 xs) in
        saturates _ (omega (arith, triangle kept more)) ∙ omega (arith, ints, here)

-- the last moment of a generation
pub ends_at : (made window g last : ℕ) → 0 < window → last ≡ min (made + g * window + (window - 1)) (2 ^ 64 - 1)
    → (moment : ℕ) → moment < 2 ^ 64 → nat_lt last moment ≡ nat_lt g (generation_at made window moment)
ends_at made window g last some is moment fits =
    elim (leb_tells moment (made + g * window + (window - 1))) [
      | inl near ↦
          let low : (moment - made) / window < g + 1 = div_below (moment - made) window (g + 1) some (omega arith) in
          let here : moment ≤ last = rw is (omega arith) in
          le-ltb last moment here ∙ sym (le-ltb g ((moment - made) / window) (omega arith))
      | inr far ↦
          let high : g + 1 ≤ (moment - made) / window = le-div (g + 1) (moment - made) window some (omega arith) in
          let past : last < moment = rw is (omega arith) in
          lt-ltb last moment past ∙ sym (lt-ltb g ((moment - made) / window) (omega arith))
    ]

pub ends_here : (made window moment last : ℕ) → 0 < window → made ≤ moment → last ≡ min (moment - (moment - made) % window + (window - 1)) (2 ^ 64 - 1)
    → (later : ℕ) → later < 2 ^ 64 → nat_lt last later ≡ nat_lt (generation_at made window moment) (generation_at made window later)
ends_here made window moment last some late is =
    let begins : moment - (moment - made) % window ≡ made + (moment - made) / window * window = omega (arith, div-add-mod' (moment - made) window) in
    ends_at made window ((moment - made) / window) last some (is ∙ ap (λ (b : ℕ). min (b + (window - 1)) (2 ^ 64 - 1)) begins)

-- a moment in the present generation
pub stays : (core : BudgetCore) (l : Ledger) (moment : ℕ) → moment < 2 ^ 64 → moment ≤ core.last → StandsFor core l → StandsFor core (advanced l moment)
stays core l moment fits near s =
    let here : generation_at core.made core.terms.window moment ≤ core.generation =
    ltb-false core.generation _ (sym (core.ends moment fits) ∙ le-ltb core.last moment near) in
    let terms = s.terms in
    let made = s.made in
    let generation = s.generation in
    let same : max l.generation (generation_at l.made l.terms.window moment) ≡ l.generation = max-eq_left (rw (terms, made, generation) here) in
    subst (λ (g : ℕ). StandsFor core (record l { generation = g })) (sym same) s

-- a moment past it
pub is_later : (core : BudgetCore) (moment : ℕ) → moment < 2 ^ 64 → core.last < moment → core.generation < generation_at core.made core.terms.window moment
is_later core moment fits past = ltb-true core.generation _ (sym (core.ends moment fits) ∙ lt-ltb core.last moment past)

pub is_after : (made window moment : ℕ) → 0 < generation_at made window moment → made < moment
is_after made window moment some =
    elim (leb_tells moment made) [
      | inl early ↦
          let none : moment - made ≡ 0 = omega arith in
          let first : (moment - made) / window ≡ 0 = rw none (zero-div window) in
          absurd (omega (arith, some, first))
      | inr late ↦ late.1
    ]

-- at that moment, so many generations later
pub moved_on : (old new : BudgetCore) (l : Ledger) (n moment : ℕ) (present : ℤ) → 0 < n → old.generation + n ≡ generation_at old.made old.terms.window moment → present ≡ old.present
    → new.terms ≡ old.terms → new.made ≡ old.made → new.generation ≡ generation_at old.made old.terms.window moment → new.present ≡ pos 0
    → Shifted n present old.slots.index old.slots.amounts.items new.slots.index new.slots.amounts.items → StandsFor old l → StandsFor new (advanced l moment)
moved_on old new l n moment present some is kept terms made generation none moves s =
    let old_terms = s.terms in
    let old_made = s.made in
    let old_generation = s.generation in
    let there : generation_at l.made l.terms.window moment ≡ l.generation + n = rw (old_terms, old_made, old_generation) (sym is) in
    let later : max l.generation (generation_at l.made l.terms.window moment) ≡ l.generation + n = rw there (max-eq_right (omega arith)) in
    subst (λ (g : ℕ). StandsFor new (record l { generation = g })) (sym later) (record {
      terms = s.terms ∙ sym terms;
      made = s.made ∙ sym made;
      generation = rw old_generation (is ∙ sym generation);
      present = rw none (none_keeps (l.generation + n) 0 l.generation l.amounts s.slots.none_later (omega arith));
      slots = moves l.generation l.amounts (rw kept s.present) s.slots;
    })

-- whether a core affords a withdrawal is whether its ledger does
pub affords : (core : BudgetCore) (l : Ledger) → StandsFor core l → (answer : Bool)
    → answer ≡ int_le (pos core.terms.withdrawal) (kept_balance core) → IsExact l → answer ≡ int_le (pos l.terms.withdrawal) (balance l)
affords core l s answer is small =
    let terms = s.terms in
    let same = balances core l s small in
    is ∙ ap (λ (n : ℕ). int_le (pos n) (kept_balance core)) (sym (ap (λ (t : Terms). t.withdrawal) terms)) ∙ ap (λ (z : ℤ). int_le (pos l.terms.withdrawal) z) same
