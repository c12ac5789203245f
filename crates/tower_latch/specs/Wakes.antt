-- Who waits, and who may go on, after a step.
use Rattle.std.specs.Prelude.{◌≡◌, ◌⊎◌, ℕ, ⊤}
use Rattle.tower_latch.specs.declared.Wakes.{Wakes}
use Rattle.tower_latch.specs.declared.Wakes.TheVariants.{Wait, Nobody, One, Unstalled, All}

-- Whoever waits at this key may go on, as far as the name says.
abbrev pub IsNamed : Wakes → ℕ → Type 0
IsNamed (Wait at) key = ⊥
IsNamed Nobody key = ⊥
IsNamed (One named) key = named ≡ key
IsNamed Unstalled key = ⊤
IsNamed All key = ⊤

-- Whoever waits at this key may be passed over though it is named: `Unstalled` is meant for those who no longer stall.
abbrev pub IsSpared : (ℕ → Type 0) → Wakes → ℕ → Type 0
IsSpared stalls Unstalled key = stalls key
IsSpared stalls _ key = ⊥

module _ {C : Type 0} (stalls : C → ℕ → Type 0) where
  -- Whoever stalls in the old core stalls in the new one.
  abbrev pub StallsOn : C → C → Type 0
  StallsOn old new = (key : ℕ) → stalls old key → stalls new key

  -- Whoever stalls in the old core stalls in the new one, or is named. If the caller waits, its key stalls.
  abbrev pub NamesAll : C → C → Wakes → Type 0
  NamesAll old new wakes = ((key : ℕ) → stalls old key → stalls new key ⊎ IsNamed wakes key) × ((key : ℕ) → wakes ≡ Wait key → stalls new key)

  -- Whoever waits at this key is woken after a step that left this core: it is named, and can't be passed over.
  abbrev pub IsWoken : C → Wakes → ℕ → Type 0
  IsWoken new wakes key = IsNamed wakes key × ¬ (IsSpared (stalls new) wakes key)

  -- Whoever is named as the one no longer stalls.
  abbrev pub OneGoesOn : C → Wakes → Type 0
  OneGoesOn new wakes = (key : ℕ) → wakes ≡ One key → ¬ (stalls new key)

  -- Nobody else is named: whoever is named stalled in the old core, and stalls no longer.
  abbrev pub NamesOnly : C → C → Wakes → Type 0
  NamesOnly old new wakes = (key : ℕ) → IsNamed wakes key → stalls old key × ¬ (stalls new key)

  -- At most one is named. It stalled in the old core, and no longer does in the new one.
  abbrev pub FreesOne : C → C → Wakes → Type 0
  FreesOne old new (One key) = stalls old key × ¬ (stalls new key)
  FreesOne old new Nobody = ⊤
  FreesOne old new _ = ⊥
