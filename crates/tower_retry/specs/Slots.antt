-- Ten slots in a ring, and what they keep of a list of amounts.
use Rattle.std.specs.Prelude.{◌≡◌, ◌<◌, ◌≤◌, ℕ, zero, suc, ◌+◌, ◌-◌, ◌^◌, ◌%◌, nat_eq, if◌then◌else◌, List, [], ◌∷◌, ℤ, pos, nat_abs, ◌+ℤ◌, ⊤, slice_index_or}
use Rattle.std.specs.Int.{w128, saturate_signed}
use Rattle.tower_retry.specs.Budget.{Amount}

-- P holds of each amount.
abbrev pub Each : (Amount → Type 0) → List Amount → Type 0
Each P [] = ⊤
Each P (amount ∷ rest) = P amount × Each P rest

-- the sum of the amounts of the generation that is `back` generations before this one, and the sum of their sizes
abbrev pub sum_back : ℕ → ℕ → List Amount → ℤ
sum_back generation back [] = pos 0
sum_back generation back (amount ∷ rest) = (if nat_eq (amount.generation + back) generation then amount.amount else pos 0) +ℤ sum_back generation back rest

abbrev pub size_back : ℕ → ℕ → List Amount → ℕ
size_back generation back [] = 0
size_back generation back (amount ∷ rest) = (if nat_eq (amount.generation + back) generation then nat_abs amount.amount else 0) + size_back generation back rest

-- What is kept of the generation that is `back` generations before this one is the sum of its amounts, if that is exact.
abbrev pub Keeps : ℕ → ℕ → List Amount → ℤ → Type 0
Keeps generation back amounts kept = size_back generation back amounts < 2 ^ 127 → kept ≡ sum_back generation back amounts

-- The place of the slot of `back` generations before: the slot of one generation before is just before the index, and so on, round the ring, to
-- that of ten generations before, at the index.
abbrev pub place : ℕ → ℕ → ℕ
place index back = (index + 10 - back) % 10

abbrev pub slot : ℕ → List ℤ → ℕ → ℤ
slot index slots back = slice_index_or slots (place index back) (pos 0)

-- The slots keep the ten generations before this one, and no amount is of a later one.
pub record Slotted (generation : ℕ) (amounts : List Amount) (index : ℕ) (slots : List ℤ) : Type 0 where
  pub none_later : Each (λ amount. amount.generation ≤ generation) amounts
  pub each : (back : ℕ) → 1 ≤ back → back ≤ 10 → Keeps generation back amounts (slot index slots back)

-- Whatever the old slots and the amount of the present generation keep, the new slots keep `generations` generations later.
abbrev pub Shifted : ℕ → ℤ → ℕ → List ℤ → ℕ → List ℤ → Type 0
Shifted generations present index slots new_index new_slots =
    (generation : ℕ) (amounts : List Amount) → Keeps generation 0 amounts present → Slotted generation amounts index slots
    → Slotted (generation + generations) amounts new_index new_slots

-- the sum of `sum` and of the slots of the last generations, the newest first, up to `back` generations before; it saturates at 128 bits (`w128`)
unfoldable pub kept_sum : ℤ → ℕ → List ℤ → ℕ → ℤ
kept_sum sum index slots zero = sum
kept_sum sum index slots (suc back) = saturate_signed w128 (kept_sum sum index slots back +ℤ slot index slots (suc back))
