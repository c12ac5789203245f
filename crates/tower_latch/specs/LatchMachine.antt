-- The machine of a latch: a core, and those who wait at each key.
use Rattle.std.specs.Prelude.{◌≡◌, ◌⊎◌, ℕ, true, List, Option}
use Rattle.futures.specs.declared.task.context.Context.{Context}
use Rattle.tower_latch.specs.Guarded.{IsKept, Settled, Takes, at}
use Rattle.tower_latch.specs.Wakes.{NamesAll}
use Rattle.tower_latch.specs.declared.Core.{Ghosts as CoreOf}
use Rattle.tower_latch.specs.declared.Wakes.{Wakes}
use Rattle.tower_latch.specs.declared.Wakes.TheVariants.{Wait, One}
use Rattle.tower_latch.specs.declared.guarded.crowd.Waiter.{Waiter}

-- for each key those who wait there
abbrev pub Crowds : Type 0
Crowds = List (List Waiter)

module _ {C S R T : Type 0} (c : CoreOf C S R T) where
  -- One step at the latch. The core makes it, has this reply and names some. Those are taken out to be woken, except whoever still stalls after
  -- a step that names `Unstalled`. Whoever else waits still waits.
  pub record StepsAndWakes (old : C) (had : Crowds) (step : S) (reply : R) (woken : Option Crowds) (new : C) (have : Crowds) : Type 0 where
    pub wakes : Wakes
    pub steps : c.steps old step reply new
    pub waits : c.is_wait reply ≡ true → wakes ≡ Wait (c.key_of step reply)
    pub names : NamesAll c.stalls old new wakes
    pub takes : Takes (c.stalls new) had wakes woken have

  -- One step of a task that may wait, from one context to another. If the reply waits, the task is kept at its key then. Whoever waits at
  -- another key stays as the step left it.
  pub record Waits (share : ℕ) (cx : Context) (old : C) (had : Crowds) (step : S) (reply : R) (woken : Option Crowds) (after : Context) (new : C) (have : Crowds) : Type 0 where
    pub mid : Crowds
    pub stepped : StepsAndWakes old had step reply woken new mid
    pub kept : c.is_wait reply ≡ true → IsKept share cx after (at have (c.key_of step reply))
    pub others : (key : ℕ) → (at have key ≡ at mid key) ⊎ (stepped.wakes ≡ Wait key)

  -- Nobody who could go on is left asleep: if each key at which somebody waits stalls, the same holds after each step of the latch.
  pub record LeavesNoneAsleep : Type 0 where
    pub step : (old new : C) (had have : Crowds) (step : S) (reply : R) (woken : Option Crowds)
        → Settled c.stalls old had → StepsAndWakes old had step reply woken new have → Settled c.stalls new have
    pub wait : (share : ℕ) (cx after : Context) (old new : C) (had have : Crowds) (step : S) (reply : R) (woken : Option Crowds)
        → Settled c.stalls old had → Waits share cx old had step reply woken after new have → Settled c.stalls new have

  -- A step that names one, who no longer stalls, wakes nobody in vain: at each key that stalls after it, the same wait as before.
  abbrev pub WakesNoneInVain : Type 0
  WakesNoneInVain = (old new : C) (had have : Crowds) (step : S) (reply : R) (woken : Option Crowds) (stepped : StepsAndWakes old had step reply woken new have)
      (named : ℕ) → stepped.wakes ≡ One named → ¬ (c.stalls new named) → (key : ℕ) → c.stalls new key → at have key ≡ at had key
