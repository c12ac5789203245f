-- Whoever waits, waits at a key that stalls.
use Rattle.std.proofs.Common.{◌≡◌, ◌⊎◌, ℕ, [], Option, None, inl, inr, ◌∙◌, refl, sym, subst}
use Rattle.std.proofs.Math.Logic.{∥∥₁_map}
use Rattle.futures.specs.declared.task.context.Context.{Context}
use Rattle.tower_latch.specs.Guarded.{IsAlone, Settled, Takes, at}
use Rattle.tower_latch.specs.LatchMachine.{Crowds, LeavesNoneAsleep, StepsAndWakes, Waits, WakesNoneInVain}
use Rattle.tower_latch.specs.Wakes.{IsNamed, IsSpared, NamesAll}
use Rattle.tower_latch.specs.declared.Core.{Ghosts as CoreOf}
use Rattle.tower_latch.specs.declared.Wakes.{Wakes}
use Rattle.tower_latch.specs.declared.Wakes.TheVariants.{Wait, Nobody, One, Unstalled, All}

-- nobody is taken out if nobody waits
pub takes_alone : (stalls : ℕ → Type 0) (had : Crowds) (wakes : Wakes) → IsAlone had → Takes stalls had wakes None had
takes_alone stalls had wakes alone = ((λ key named. inl (alone key)), (λ key. inl refl), (λ key. inl refl))

-- whoever is passed over stalls
pub spared_stalls : (stalls : ℕ → Type 0) (wakes : Wakes) (key : ℕ) → IsSpared stalls wakes key → stalls key
spared_stalls stalls (Wait at) key spared = absurd spared
spared_stalls stalls Nobody key spared = absurd spared
spared_stalls stalls (One named) key spared = absurd spared
spared_stalls stalls Unstalled key spared = spared
spared_stalls stalls All key spared = absurd spared

-- whoever waits at two keys waits at one
pub waiting_at : (wakes : Wakes) (one other : ℕ) → wakes ≡ Wait one → wakes ≡ Wait other → one ≡ other
waiting_at wakes one other first second = cc (first, second)

module _ {C : Type 0} (stalls : C → ℕ → Type 0) where
  pub settled_alone : (core : C) (waiters : Crowds) → IsAlone waiters → ∥ Settled stalls core waiters ∥₁
  settled_alone core waiters alone = ∣ (λ key. inl (alone key)) ∣₁

  taken : (old new : C) (wakes : Wakes) (had have : Crowds) (woken : Option Crowds)
      → Settled stalls old had → NamesAll stalls old new wakes → Takes (stalls new) had wakes woken have → Settled stalls new have
  taken old new wakes had have woken settled names takes = λ key. pick key (takes.1 key) (settled key)
    where
      gone : (key : ℕ) → stalls new key ⊎ IsNamed wakes key → (at have key ≡ []) ⊎ stalls new key
      gone key (inl stalled) = inr stalled
      gone key (inr name) = elim (takes.0 key name) [ inl none ↦ inl none | inr spared ↦ inr (spared_stalls (stalls new) wakes key spared) ]

      pick : {H : Type 0} (key : ℕ) → (at have key ≡ at had key) ⊎ ((at have key ≡ []) × H) → (at had key ≡ []) ⊎ stalls old key → (at have key ≡ []) ⊎ stalls new key
      pick key (inr gone) s = inl gone.0
      pick key (inl same) (inl none) = inl (same ∙ none)
      pick key (inl same) (inr stalled) = gone key (names.0 key stalled)

  -- whoever is kept waits at a key that stalls
  kept : (core : C) (wakes : Wakes) (had have : Crowds) → Settled stalls core had → ((key : ℕ) → wakes ≡ Wait key → stalls core key)
      → ((key : ℕ) → (at have key ≡ at had key) ⊎ (wakes ≡ Wait key)) → Settled stalls core have
  kept core wakes had have settled waits stay = λ key. pick key (stay key) (settled key)
    where
      pick : (key : ℕ) → (at have key ≡ at had key) ⊎ (wakes ≡ Wait key) → (at had key ≡ []) ⊎ stalls core key → (at have key ≡ []) ⊎ stalls core key
      pick key (inr waiting) s = inr (waits key waiting)
      pick key (inl same) (inl none) = inl (same ∙ none)
      pick key (inl same) (inr s) = inr s

module _ {C S R T : Type 0} (c : CoreOf C S R T) where
  pub settled_turn : (old new : C) (had have : Crowds) (step : S) (reply : R) (woken : Option Crowds)
      → Settled c.stalls old had → StepsAndWakes c old had step reply woken new have → Settled c.stalls new have
  settled_turn old new had have step reply woken settled t = taken c.stalls old new t.wakes had have woken settled t.names t.takes

  pub settled_wait : (share : ℕ) (cx after : Context) (old new : C) (had have : Crowds) (step : S) (reply : R) (woken : Option Crowds)
      → Settled c.stalls old had → Waits c share cx old had step reply woken after new have → Settled c.stalls new have
  settled_wait share cx after old new had have step reply woken settled w =
      kept c.stalls new w.stepped.wakes w.mid have (settled_turn old new had w.mid step reply woken settled w.stepped) w.stepped.names.1 w.others

  pub leaves_none_asleep : LeavesNoneAsleep c
  leaves_none_asleep = record { step = settled_turn; wait = settled_wait }

  -- whoever stalls isn't the one that is named
  pub wakes_none_in_vain : WakesNoneInVain c
  wakes_none_in_vain old new had have step reply woken t named is goes key stalled = elim (t.takes.2 key) [
    | inl same ↦ same
    | inr name ↦ absurd (goes (subst (c.stalls new) (sym (subst (λ (w : Wakes). IsNamed w key) is name)) stalled))
  ]

  pub settled_by_turn : (old new : C) (had have : Crowds) (step : S) (reply : R) (woken : Option Crowds)
      → ∥ Settled c.stalls old had ∥₁ → StepsAndWakes c old had step reply woken new have → ∥ Settled c.stalls new have ∥₁
  settled_by_turn old new had have step reply woken settled t = ∥∥₁_map settled (λ s. settled_turn old new had have step reply woken s t)

  pub settled_by_wait : (share : ℕ) (cx after : Context) (old new : C) (had have : Crowds) (step : S) (reply : R) (woken : Option Crowds)
      → ∥ Settled c.stalls old had ∥₁ → Waits c share cx old had step reply woken after new have → ∥ Settled c.stalls new have ∥₁
  settled_by_wait share cx after old new had have step reply woken settled w = ∥∥₁_map settled (λ s. settled_wait share cx after old new had have step reply woken s w)
