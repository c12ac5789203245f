-- The messages that are kept under their ids.
use Rattle.std.specs.Prelude.{◌≡◌, ◌⊎◌, ℕ, Bool, true, false, Option, Some, None, is_some}
use Rattle.slab.specs.Slab.{get, Updates}
use Rattle.tower_base.specs.Links.{LinksView}
use Rattle.tower_base.specs.Order.{without}
use Rattle.tower_buffer.specs.declared.buffer.message.Fate.{Fate}
use Rattle.tower_buffer.specs.declared.buffer.message.Fate.TheVariants.{Open, Answered, Failed, Cancelled, Lost}
use Rattle.tower_buffer.specs.declared.buffer.message.Message.{Message}

module _ {F : Type 0} where
  abbrev pub is_failed : Fate F → Bool
  is_failed Failed = true
  is_failed _ = false

  abbrev pub is_cancelled : Fate F → Bool
  is_cancelled Cancelled = true
  is_cancelled _ = false

  -- whether it has no outcome, or nobody waits for one
  abbrev pub is_unsettled : Fate F → Bool
  is_unsettled Open = true
  is_unsettled Cancelled = true
  is_unsettled _ = false

  -- It was answered, or the worker went away.
  abbrev pub Ended : Fate F → Type 0
  Ended (Answered future) = Unit {0}
  Ended Lost = Unit {0}
  Ended _ = ⊥

  -- the fate without its future
  abbrev pub bare : Fate F → Fate (Unit {0})
  bare Open = Open
  bare (Answered future) = Answered tt
  bare Failed = Failed
  bare Cancelled = Cancelled
  bare Lost = Lost

module _ {Q F : Type 0} where
  -- whether someone still waits, if the worker holds it unsettled
  abbrev pub taken_by : Option Q → Fate F → Option Bool
  taken_by None Open = Some true
  taken_by None Cancelled = Some false
  taken_by _ _ = None

  abbrev pub taken_at : Option (Message Q F) → Option Bool
  taken_at None = None
  taken_at (Some message) = taken_by message.request message.fate

  abbrev pub fate_at : Option (Message Q F) → Option (Fate (Unit {0}))
  fate_at None = None
  fate_at (Some message) = Some (bare message.fate)

  abbrev pub is_queued : Option (Message Q F) → Bool
  is_queued None = false
  is_queued (Some message) = is_some message.request

  -- what is left when the worker is gone: a message without an outcome is lost, and one that nobody waits for is gone
  abbrev pub lost_by : Message Q F → Fate F → Option (Message Q F)
  lost_by message Open = Some (record { request = None; fate = Lost })
  lost_by message Cancelled = None
  lost_by message _ = Some message

  abbrev pub lost : Option (Message Q F) → Option (Message Q F)
  lost None = None
  lost (Some message) = lost_by message message.fate

  -- A message has failed only if an error is stored, and is queued only without an outcome.
  abbrev pub Fits : {E : Type 0} → Option E → Message Q F → Type 0
  Fits stored message = (is_failed message.fate ≡ true → is_some stored ≡ true) × (is_unsettled message.fate ≡ false → message.request ≡ None)

  -- A taken message without an outcome has failed now, and one that nobody waits for is gone. (`Updates old new id value`: the new slab has this value
  -- under the id, or none, and is otherwise as before.)
  pub record FailsTaken (old : LinksView (Message Q F)) (id : ℕ) (new : LinksView (Message Q F)) : Type 0 where
    pub message : Message Q F
    pub was : get old.entries id ≡ Some message
    pub taken : message.request ≡ None
    pub goes : ((message.fate ≡ Open) × Updates old.entries new.entries id (Some (record message { fate = Failed })) × (new.order ≡ old.order))
        ⊎ ((message.fate ≡ Cancelled) × Updates old.entries new.entries id None × (new.order ≡ without old.order id))
