-- What a history says of permits, one entry further.
use Rattle.std.proofs.Common.{◌≡◌, ◌⊎◌, ◌+◌, ◌≤◌, ◌<◌, ℕ, zero, suc, List, [], ◌∷◌, take, length, sym, subst, ◌∙◌, add-one, inl, inr, ⊎_elim, arith}
use Rattle.std.specs.Prelude.{slice_index_or}
use Rattle.std.proofs.lemmas.Bool.{cases_lt}
use Rattle.std.proofs.lemmas.List.{take_all}
use Rattle.tower_limit.specs.LineLaws.{grants, returns, one_if_granted, one_if_left}
use Rattle.tower_limit.specs.declared.limit.concurrency.line_core.LineStep.{LineStep}
use Rattle.tower_limit.specs.declared.limit.concurrency.line_core.LineReply.{LineReply}

pub grants_next : (history : List (LineStep × LineReply)) (n : ℕ) (d : LineStep × LineReply) → n < length history
    → grants (take (suc n) history) ≡ grants (take n history) + one_if_granted (slice_index_or history n d).1
grants_next [] n d within = absurd (omega (arith, within))
grants_next (x ∷ history) zero d within = omega arith
grants_next (x ∷ history) (suc n) d within = let more = grants_next history n d (omega (arith, within)) in omega (arith, more)

pub returns_next : (history : List (LineStep × LineReply)) (n : ℕ) (d : LineStep × LineReply) → n < length history
    → returns (take (suc n) history) ≡ returns (take n history) + one_if_left (slice_index_or history n d).0 (slice_index_or history n d).1
returns_next [] n d within = absurd (omega (arith, within))
returns_next (x ∷ history) zero d within = omega arith
returns_next (x ∷ history) (suc n) d within = let more = returns_next history n d (omega (arith, within)) in omega (arith, more)

-- up to this entry no more were out, and at one so many
abbrev pub IsMostBy : List (LineStep × LineReply) → ℕ → ℕ → Type 0
IsMostBy history end most = ((n : ℕ) → n ≤ end → grants (take n history) ≤ most + returns (take n history))
    × ((n : ℕ) × (grants (take n history) ≡ most + returns (take n history)))

pub most_next : (history : List (LineStep × LineReply)) (end most next granted returned : ℕ) → IsMostBy history end most
    → granted ≡ grants (take (suc end) history) → returned ≡ returns (take (suc end) history)
    → granted ≤ next + returned → most ≤ next → (next ≡ most) ⊎ (granted ≡ next + returned) → IsMostBy history (suc end) next
most_next history end most next granted returned is g r out stays so = (never, once so)
  where
    never : (n : ℕ) → n ≤ suc end → grants (take n history) ≤ next + returns (take n history)
    never n within =
        ⊎_elim
        (λ (earlier : n < suc end). let old = is.0 n (omega (arith, earlier)) in omega (arith, old, stays))
        (λ (last : suc end ≤ n). let here : suc end ≡ n = omega (arith, last, within) in subst (λ (k : ℕ). grants (take k history) ≤ next + returns (take k history)) here (omega (arith, g, r, out)))
        (cases_lt n (suc end))

    once : (next ≡ most) ⊎ (granted ≡ next + returned) → (n : ℕ) × (grants (take n history) ≡ next + returns (take n history))
    once (inl same) = let was = is.1.1 in (is.1.0, omega (arith, was, same))
    once (inr now) = (suc end, omega (arith, g, r, now))

-- the end of the history is the end
pub most_all : (history : List (LineStep × LineReply)) (end most : ℕ) → length history ≤ end → IsMostBy history end most
    → (n : ℕ) → grants (take n history) ≤ most + returns (take n history)
most_all history end most whole is n =
    ⊎_elim
    (λ (within : n < suc end). is.0 n (omega (arith, within)))
    (λ (past : suc end ≤ n). let a = take_all n history (omega (arith, whole, past)) in let b = take_all end history whole in subst (λ (h : List (LineStep × LineReply)). grants h ≤ most + returns h) (b ∙ sym a) (is.0 end (omega arith)))
    (cases_lt n (suc end))

-- one entry further
pub audit_next : (history : List (LineStep × LineReply)) (end : ℕ) (d : LineStep × LineReply) (granted returned most next out back : ℕ) → end < length history
    → granted ≡ grants (take end history) → returned ≡ returns (take end history) → IsMostBy history end most
    → out ≡ one_if_granted (slice_index_or history end d).1 → back ≡ one_if_left (slice_index_or history end d).0 (slice_index_or history end d).1
    → granted + out ≤ next + (returned + back) → most ≤ next → (next ≡ most) ⊎ (granted + out ≡ next + (returned + back))
    → (granted + out ≡ grants (take (end + 1) history)) × (returned + back ≡ returns (take (end + 1) history)) × (IsMostBy history (end + 1) next)
audit_next history end d granted returned most next out back within g r is x y bound stays so =
    let more = grants_next history end d within in
    let less = returns_next history end d within in
    let g' : granted + out ≡ grants (take (suc end) history) = omega (arith, g, x, more) in
    let r' : returned + back ≡ returns (take (suc end) history) = omega (arith, r, y, less) in
    subst
    (λ (n : ℕ). (granted + out ≡ grants (take n history)) × (returned + back ≡ returns (take n history)) × (IsMostBy history n next))
    (sym (add-one end))
    (g', r', most_next history end most next (granted + out) (returned + back) is g' r' bound stays so)
