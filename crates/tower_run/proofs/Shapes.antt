-- A list of one, and of four.
use Rattle.std.proofs.Common.{◌≡◌, ◌<◌, ◌≤◌, List, [], ◌∷◌, length, get_or, arith, sym}

pub one : {X : Type 0} → (xs : List X) (a : X) → 1 ≤ length xs → length xs < 2 → a ≡ get_or xs 0 a → xs ≡ a ∷ []
one [] a least most is = absurd (omega arith)
one (x ∷ []) a least most is = let e : x ≡ a = sym is in cc
one (x ∷ y ∷ rest) a least most is = absurd (omega arith)

pub four : {X : Type 0} → (xs : List X) (a b c d : X) → 4 ≤ length xs → length xs < 5
    → a ≡ get_or xs 0 a → b ≡ get_or xs 1 b → c ≡ get_or xs 2 c → d ≡ get_or xs 3 d → xs ≡ a ∷ b ∷ c ∷ d ∷ []
four [] a b c d least most h i j k = absurd (omega arith)
four (w ∷ []) a b c d least most h i j k = absurd (omega arith)
four (w ∷ x ∷ []) a b c d least most h i j k = absurd (omega arith)
four (w ∷ x ∷ y ∷ []) a b c d least most h i j k = absurd (omega arith)
four (w ∷ x ∷ y ∷ z ∷ []) a b c d least most h i j k =
    let e : w ≡ a = sym h in let f : x ≡ b = sym i in let g : y ≡ c = sym j in let l : z ≡ d = sym k in cc
four (w ∷ x ∷ y ∷ z ∷ v ∷ rest) a b c d least most h i j k = absurd (omega arith)
