-- What is known of a closed log. A `Logged` is a core under one lock, and a history: the steps of the core with their replies, in order.
-- `open` creates it with some passes; a *pass* is what one thread makes steps with. `step` makes one step of the core, and the pass keeps a
-- receipt of it: its place in the history, the step and the reply. `close` takes all passes back, and returns a history for which the
-- statements below hold.
use Rattle.std.specs.Prelude.{◌≡◌, ℕ, ◌<◌, ◌+◌, List, [], ◌∷◌, Option, Some, slice_get}
use Rattle.std.specs.List.{AllByRecursion, sum_by}
use Rattle.tower_latch.specs.Latch.{Serves}

module _ {C S R : Type 0} (opens : C → Type 0) (steps : C → S → R → C → Type 0) where
  -- The log opened with a value from which a run may begin, and the history is a run from there to this value. (The type that names a log
  -- says what it opened with: `None` for a type that names none.)
  abbrev pub LeadsTo : Option C → List (S × R) → C → Type 0
  LeadsTo opening history core = (first : C) × (opening ≡ Some first) × opens first × Serves steps first history core

  -- The history is one run of the core, from the value that the log opened with.
  abbrev pub IsLegal : Option C → List (S × R) → Type 0
  IsLegal opening history = (last : C) × LeadsTo opening history last

module _ {S R : Type 0} where
  -- The step and reply of each receipt stand in the history at its place.
  abbrev pub Stand : List (S × R) → List (ℕ × S × R) → Type 0
  Stand history receipts = (k : ℕ) (receipt : ℕ × S × R) → slice_get receipts k ≡ Some receipt → slice_get history receipt.0 ≡ Some (receipt.1, receipt.2)

  -- Later receipts of a pass have higher places, so its steps stand in the history in their own order.
  abbrev pub Rises : List (ℕ × S × R) → Type 0
  Rises receipts = (i j : ℕ) (a b : ℕ × S × R) → i < j → slice_get receipts i ≡ Some a → slice_get receipts j ≡ Some b → a.0 < b.0

  -- The receipts of one pass fit the history.
  abbrev pub Fits : List (S × R) → List (ℕ × S × R) → Type 0
  Fits history receipts = Stand history receipts × Rises receipts

  -- The receipts of each pass fit the history.
  abbrev pub EachFits : List (S × R) → List (List (ℕ × S × R)) → Type 0
  EachFits history passes = AllByRecursion (Fits history) passes

  -- The pass with this number has this receipt at the given number.
  abbrev pub IsReceipt : List (List (ℕ × S × R)) → ℕ → ℕ → ℕ × S × R → Type 0
  IsReceipt passes pass number receipt = (receipts : List (ℕ × S × R)) × (slice_get passes pass ≡ Some receipts) × (slice_get receipts number ≡ Some receipt)

  -- Each entry of the history has its receipt, and no other receipt has its place.
  abbrev pub HaveOneEach : List (S × R) → List (List (ℕ × S × R)) → Type 0
  HaveOneEach history passes =
      (place : ℕ) (entry : S × R) → slice_get history place ≡ Some entry
      → (pass : ℕ) × (number : ℕ) × IsReceipt passes pass number (place, entry.0, entry.1)
      × ((p n : ℕ) (receipt : ℕ × S × R) → IsReceipt passes p n receipt → receipt.0 ≡ place → (p ≡ pass) × (n ≡ number))

  -- the entries as receipts, with places counted from this one
  abbrev pub numbered : ℕ → List (S × R) → List (ℕ × S × R)
  numbered from [] = []
  numbered from (entry ∷ entries) = (from, entry.0, entry.1) ∷ numbered (from + 1) entries

  -- For any weight of receipts, those of all passes together weigh as much as the history. A weight of 1 for steps of one kind and of 0 for others
  -- counts them: the passes together made as many as the history has.
  abbrev pub Weighs : List (S × R) → List (List (ℕ × S × R)) → Type 0
  Weighs history passes = (weight : ℕ × S × R → ℕ) → sum_by (sum_by weight) passes ≡ sum_by weight (numbered 0 history)
