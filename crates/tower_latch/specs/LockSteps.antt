-- One step of a core behind its lock: what it requires of the seat that has the core, and what it shows.
use Rattle.std.specs.Prelude.{◌≡◌, ◌≤◌, ◌+◌, ℕ, true}
use Rattle.futures.specs.Task.{Hears, IsArmed, Keeps}
use Rattle.futures.specs.declared.task.context.Context.{Context}
use Rattle.atomic_table.specs.Seated.{TableId}
use Rattle.atomic_table.specs.declared.shared.Seat.{Seat}
use Rattle.tower_latch.specs.CoreTable.{HasCore, LeavesBadge, MayFree, places}
use Rattle.tower_latch.specs.Latch.{Came}
use Rattle.tower_latch.specs.declared.Core.{Ghosts as CoreOf}
use Rattle.tower_latch.specs.declared.guarded.table.View.{View}
use Rattle.tower_latch.specs.declared.guarded.token.Token.{Token}

module _ {C S R T : Type 0} (c : CoreOf C S R T) where
  -- The core makes the step in some run, keeps its terms, and counts the places that go back and those that are handed out.
  pub record CoreSteps (old : C) (step : S) (reply : R) (new : C) : Type 0 where
    pub came : Came c.opens c.steps c.terms (c.terms old) step reply
    pub terms : c.terms new ≡ c.terms old
    pub counted : c.out new + c.paid step reply ≡ c.out old + c.gained reply

  -- A task whose reply waits is registered at this source, or asked for another poll.
  pub record Awaits (source : ℕ) (reply : R) (old new : Context) : Type 0 where
    pub armed : c.is_wait reply ≡ true → IsArmed new
    pub heard : c.is_wait reply ≡ true → Hears new source
    pub keeps : Keeps old new

  -- The slot of this table has a core with these terms.
  module _ {K : Type 0} (core_of : K → C) (table : TableId) (terms : T) where
    -- The seat may make the step: it has the core, and the places that the step gives back.
    pub record MayStep (seat : Seat K View) (step : S) : Type 0 where
      pub admitted : c.admits step
      pub paid : (reply : R) → c.paid step reply ≤ seat.me.0.out
      pub its : seat.table_id ≡ table
      pub has : seat.me.0.has ≡ true
      pub core : HasCore (λ k. c.terms (core_of k) ≡ terms) (λ k. c.out (core_of k)) seat.me

    -- The seat may put the core back.
    pub record MayPutBack (seat : Seat K View) : Type 0 where
      pub its : seat.table_id ≡ table
      pub has : seat.me.0.has ≡ true
      pub core : MayFree (λ k. c.terms (core_of k) ≡ terms) (λ k. c.out (core_of k)) seat.me

    -- The seat put the core back, and became this token.
    pub record PutBack (seat : Seat K View) (token : Token) : Type 0 where
      pub its : token.badge.table_id ≡ table
      pub left : LeavesBadge (λ k. c.out (core_of k)) seat.me token.badge.views

    -- The seat made the step and became a token, which has the places that the step left and those that it handed out.
    pub record StepMade (seat : Seat K View) (step : S) (reply : R) (token : Token) : Type 0 where
      pub came : Came c.opens c.steps c.terms terms step reply
      pub its : token.badge.table_id ≡ table
      pub places : places token + c.paid step reply ≡ seat.me.0.out + c.gained reply
      pub held : (old : C) × (new : C) × c.steps old step reply new × (seat.me.0.out ≤ c.out old)
