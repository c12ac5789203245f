-- What the tokens of a log know. The keeper's token knows the whole history. The token of a pass knows the pass's receipts, which it claims.
use Rattle.std.specs.Prelude.{◌≡◌, ℕ, List, [], ◌∷◌, ◌++◌, ◌+◌, length, Some, Option, true, false}
use Rattle.std.specs.List.{sum_by}
use mathlib.Core.Option.{some}
use lib.ListN.{get_elem?}
use Rattle.atomic_table.specs.Seated.{TableId}
use Rattle.tower_latch.specs.declared.logged.rule.View.{View}
use Rattle.tower_latch.specs.History.{Stand, numbered}

-- a name that belongs to no table
abbrev pub no_table : TableId
no_table = record { words = 0; slots = 0; views_name = 0; atom = 0; block = 0; offset = 0; slot_names = [] }

module _ {S R : Type 0} where
  -- the token that knows this history (the knower)
  abbrev pub knower : List (S × R) → View S R
  knower all = record { keeps = true; all = all; claims = [] }

  -- the token of a pass with these receipts
  abbrev pub claimer : List (ℕ × S × R) → View S R
  claimer claims = record { keeps = false; all = []; claims = claims }

  -- the knower with the claims that it has gathered
  abbrev pub gatherer : List (S × R) → List (ℕ × S × R) → View S R
  gatherer all claims = record { keeps = true; all = all; claims = claims }

  -- the first token, with the claims of the second beside its own
  abbrev pub gathered : View S R → View S R → View S R
  gathered v w = record { keeps = v.keeps; all = v.all; claims = w.claims ++ v.claims }

  -- the first token, with the claims of the second in place of its own
  abbrev pub shown : View S R → View S R → View S R
  shown v w = record { keeps = v.keeps; all = v.all; claims = w.claims }

  abbrev pub kept_part : View S R → View S R
  kept_part v = record { keeps = v.keeps; all = v.all; claims = [] }

  abbrev pub claims_part : View S R → View S R
  claims_part v = claimer v.claims

  -- the weight of a token's claims
  abbrev pub claimed : (ℕ × S × R → ℕ) → View S R → ℕ
  claimed weight v = sum_by weight v.claims

  -- For any weight of claims, those of all tokens together weigh as much as the history.
  abbrev pub Balanced : List (S × R) → List (View S R) → Type 0
  Balanced history views = (weight : ℕ × S × R → ℕ) → sum_by (claimed weight) views ≡ sum_by weight (numbered 0 history)

  -- Together with the claims of some other tokens, these claims weigh as much as the history.
  abbrev pub Accounts : List (S × R) → List (ℕ × S × R) → Type 0
  Accounts history claims = (others : List (View S R)) × ((weight : ℕ × S × R → ℕ) → sum_by weight claims + sum_by (claimed weight) others ≡ sum_by weight (numbered 0 history))

  -- At most one token knows the history, all claims stand in it, and each entry is claimed once.
  abbrev pub Agree : List ℕ → List (View S R) → Type 0
  Agree words views =
      (seat : ℕ) × (history : List (S × R))
      × ((by : ℕ) (v : View S R) → get_elem? views by ≡ some v → (v.keeps ≡ true → (by ≡ seat) × (v.all ≡ history)) × Stand history v.claims)
      × Balanced history views

  -- The knower adds the entry, and claims it after all claims that it was shown.
  abbrev pub Appended : Option (S × R) → View S R → List ℕ → List ℕ → View S R → Type 0
  Appended entry old before after new =
      Stand old.all old.claims
      × ((e : S × R) → entry ≡ Some e → new ≡ record { keeps = old.keeps; all = old.all ++ e ∷ []; claims = old.claims ++ (length old.all, e.0, e.1) ∷ [] })

  -- The knower compares the claims that it has gathered with the history.
  abbrev pub Compared : View S R → List ℕ → List ℕ → View S R → Type 0
  Compared old before after new = (new ≡ old) × Stand old.all old.claims × Accounts old.all old.claims
