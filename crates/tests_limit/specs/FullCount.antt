-- A latch at which no holder more can be counted.
use Rattle.std.proofs.Common.{◌≡◌, ◌⊎◌, ◌+◌, ◌<◌, ◌≤◌, ℕ, zero, suc, List, [], ◌∷◌, ◌++◌, replicate, refl, sym, subst, ap, ◌∙◌, inl, inr, add-zero, arith}
use Rattle.std.proofs.lemmas.List.{length-replicate, length_push}
use Rattle.tower_latch.specs.Latch.{Serves, Reached, Came, StepsAs}
use Rattle.tower_limit.specs.CountCore.{Opens, StandsFor}
use Rattle.tower_limit.specs.Holders.{Holder, HolderSteps, most}
use Rattle.tower_limit.specs.declared.load.pending_requests.count_core.CountCore.{CountCore}
use Rattle.tower_limit.specs.declared.load.pending_requests.count_core.CountStep.{CountStep}
use Rattle.tower_limit.specs.declared.load.pending_requests.count_core.CountStep.TheVariants.{Take}
use Rattle.tower_limit.specs.declared.load.pending_requests.count_core.CountReply.{CountReply}
use Rattle.tower_limit.specs.declared.load.pending_requests.count_core.CountReply.TheVariants.{Counted, Full}

-- A holder is refused.
abbrev pub IsFull : CountStep → CountReply → Type 0
IsFull step reply = (step ≡ Take) × (reply ≡ Full)

abbrev Steps : CountCore → CountStep → CountReply → CountCore → Type 0
Steps = StepsAs StandsFor HolderSteps

abbrev counting : ℕ → CountCore
counting n = record { count = n }

some_holders : (n : ℕ) → (holders : List Holder) × StandsFor (counting n) holders
some_holders n = (replicate n Holder.holder, length-replicate n Holder.holder)

one_more : (n : ℕ) → n < most → Steps (counting n) Take Counted (counting (n + 1))
one_more n below =
    (some_holders n, λ plain stands. (plain ++ Holder.holder ∷ [], (subst (λ (k : ℕ). k < most) (sym stands) below, refl), length_push plain Holder.holder ∙ ap (λ (k : ℕ). k + 1) stands))

takes : ℕ → List (CountStep × CountReply)
takes zero = []
takes (suc n) = (Take, Counted) ∷ takes n

-- Holders are counted one after another.
counts_up : (more n m : ℕ) → n + more ≡ m → m ≤ most → Serves Steps (counting n) (takes more) (counting m)
unfolding takes
counts_up zero n m is bound = ap counting (sym is ∙ add-zero n)
counts_up (suc more) n m is bound = (counting (n + 1), one_more n (omega (is, bound, arith)), counts_up more (n + 1) m (omega (is, arith)) bound)

-- A run leads to a core that counts as many as can be counted, and the next holder is refused.
refuses : (m : ℕ) → m ≡ most → (its : Unit {0}) → Came Opens Steps (λ _. tt) its Take Full
refuses m is its = (
  counting m,
  counting m,
  ∣ (counting 0, takes m, refl, counts_up m 0 m (omega arith) (omega (is, arith))) ∣₁,
  (some_holders m, λ plain stands. (plain, (stands ∙ is, refl), stands)),
  refl,
)

-- A latch that also refuses holders gives only replies of a run, if the latch inside does.
pub full_is_honest : (gave : CountStep → CountReply → Type 0) (its : Unit {0}) → ((step : CountStep) (reply : CountReply) → gave step reply → Came Opens Steps (λ _. tt) its step reply)
    → (step : CountStep) (reply : CountReply) → gave step reply ⊎ IsFull step reply → Came Opens Steps (λ _. tt) its step reply
full_is_honest gave its honest step reply (inl given) = honest step reply given
full_is_honest gave its honest step reply (inr (take, full)) = rw take (rw full (refuses most refl its))
