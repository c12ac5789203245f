-- Futures that are asked one after another.
use Rattle.std.proofs.Common.{◌≡◌, ℕ, suc, ◌+◌, ◌<◌, List, [], ◌∷◌, ◌++◌, Option, Some, None, length, get_or, slice_set, drop, take, refl, sym, ◌∙◌, subst, ap, add-one, append-nil, arith}
use Rattle.std.proofs.Math.Seq.{drop-cons, take-length, drop-length}
use Rattle.std.proofs.lemmas.List.{drop-set-lt, take-set}
use Rattle.futures.specs.declared.task.Poll.TheVariants.{Ready}
use Rattle.tower_base.specs.declared.service.Steps.{Ghosts as StepsOf}
use Rattle.tower_ware.specs.Bag.{EachPolled}

module _ {N T : Type 0} (f : StepsOf N T) where
  -- those before i were pending, and what the others do is what all do
  abbrev pub Reaches : List N → ℕ → List N → Type 0
  Reaches all i xs = (a : Option T) (gs : List N) → EachPolled f (drop i xs) a gs → EachPolled f all a (take i xs ++ gs)

  module _ (all xs : List N) (i : ℕ) (old left : N) (below : i < length xs) (there : old ≡ get_or xs i old) (h : Reaches all i xs) where
    front : drop i xs ≡ old ∷ drop (i + 1) xs
    front = rw add-one (drop-cons xs i old below ∙ ap (λ y. y ∷ drop (suc i) xs) (sym there))

    pub bag_found : (x : T) → f.stepped old (Ready x) left
        → EachPolled f all (Some x) (take i (slice_set xs i left) ++ drop (i + 1) (slice_set xs i left))
    bag_found x step =
        let whole = h (Some x) (drop (i + 1) xs) (subst (λ ys. EachPolled f ys (Some x) (drop (i + 1) xs)) (sym front) (Ready x, left, step, (refl, refl))) in
        rw (take-set xs i left, drop-set-lt (i + 1) xs i left (omega arith)) whole

  pub bag_end : (all xs : List N) (i : ℕ) → i ≡ length xs → Reaches all i xs → EachPolled f all None xs
  bag_end all xs i is h =
      let same : take i xs ++ [] ≡ xs = rw (append-nil, is) (take-length xs) in
      subst (λ ys. EachPolled f all None ys) same (h None [] (rw (is, drop-length xs) (refl, refl)))
