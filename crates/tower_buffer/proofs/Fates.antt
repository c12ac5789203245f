-- What is read of a message tells what became of it.
use Rattle.std.proofs.Common.{◌≡◌, ◌≢◌, true, false, ◌⊎◌, inl, inr, Option, Some, None, is_some, refl, sym, ap, ◌∙◌}
use Rattle.tower_buffer.specs.Messages.{Ended, bare, fate_at, is_cancelled, is_queued, is_unsettled, taken_at, taken_by}
use Rattle.tower_buffer.specs.declared.buffer.message.Fate.{Fate}
use Rattle.tower_buffer.specs.declared.buffer.message.Fate.TheVariants.{Open, Answered, Failed, Cancelled, Lost}
use Rattle.tower_buffer.specs.declared.buffer.message.Message.{Message}

pub never : true ≡ false → ⊥
never e = cc

pub some_is : {X : Type 0} (x y : X) → Some x ≡ Some y → x ≡ y
some_is {X = X} x y e = ap (λ (o : Option X). elim o [ None ↦ x | Some z ↦ z ]) e

pub not_none : {X : Type 0} (x : X) → Some x ≡ None → ⊥
not_none x e = cc

module _ {F : Type 0} where
  pub cancelled_is : (fate : Fate F) → is_cancelled fate ≡ true → fate ≡ Cancelled
  cancelled_is Cancelled e = refl
  cancelled_is Open e = absurd (cc)
  cancelled_is (Answered f) e = absurd (cc)
  cancelled_is Failed e = absurd (cc)
  cancelled_is Lost e = absurd (cc)

  -- one that is queued has no outcome, where somebody waits for it
  pub open_queued : (fate : Fate F) → is_unsettled fate ≡ true → is_cancelled fate ≡ false → fate ≡ Open
  open_queued Open e h = refl
  open_queued Cancelled e h = absurd (cc)
  open_queued (Answered f) e h = absurd (cc)
  open_queued Failed e h = absurd (cc)
  open_queued Lost e h = absurd (cc)

  pub bare_open : (fate : Fate F) → bare fate ≡ Open → fate ≡ Open
  bare_open Open e = refl
  bare_open Cancelled e = absurd (cc)
  bare_open (Answered f) e = absurd (cc)
  bare_open Failed e = absurd (cc)
  bare_open Lost e = absurd (cc)

  pub bare_cancelled : (fate : Fate F) → bare fate ≡ Cancelled → fate ≡ Cancelled
  bare_cancelled Cancelled e = refl
  bare_cancelled Open e = absurd (cc)
  bare_cancelled (Answered f) e = absurd (cc)
  bare_cancelled Failed e = absurd (cc)
  bare_cancelled Lost e = absurd (cc)

  pub bare_failed : (fate : Fate F) → bare fate ≡ Failed → fate ≡ Failed
  bare_failed Failed e = refl
  bare_failed Open e = absurd (cc)
  bare_failed Cancelled e = absurd (cc)
  bare_failed (Answered f) e = absurd (cc)
  bare_failed Lost e = absurd (cc)

  pub settled : (fate : Fate F) → fate ≢ Open → fate ≢ Cancelled → is_unsettled fate ≡ false
  settled Open o h = absurd (o refl)
  settled Cancelled o h = absurd (h refl)
  settled (Answered f) o h = refl
  settled Failed o h = refl
  settled Lost o h = refl

  pub ended : (fate : Fate F) → fate ≢ Open → fate ≢ Cancelled → fate ≢ Failed → Ended fate
  ended Open o c f = absurd (o refl)
  ended Cancelled o c f = absurd (c refl)
  ended Failed o c f = absurd (f refl)
  ended (Answered f) o c f' = tt
  ended Lost o c f = tt

  pub ended_settled : (fate : Fate F) → Ended fate → is_unsettled fate ≡ false
  ended_settled Open e = absurd e
  ended_settled Cancelled e = absurd e
  ended_settled Failed e = absurd e
  ended_settled (Answered f) e = refl
  ended_settled Lost e = refl

  pub ended_lost : (fate : Fate F) → Ended fate → ((future : F) → fate ≢ Answered future) → fate ≡ Lost
  ended_lost Open e n = absurd e
  ended_lost Cancelled e n = absurd e
  ended_lost Failed e n = absurd e
  ended_lost (Answered f) e n = absurd (n f refl)
  ended_lost Lost e n = refl

pub not_some : {X : Type 0} (x : Option X) → is_some x ≡ false → x ≡ None
not_some None e = refl
not_some (Some y) e = absurd (cc)

pub some_of : {X : Type 0} (x : Option X) → is_some x ≡ true → (y : X) × (x ≡ Some y)
some_of None e = absurd (cc)
some_of (Some y) e = (y, refl)

module _ {Q F : Type 0} where
  pub still_unsettled : (request : Option Q) (fate : Fate F) → is_some request ≡ true → (is_unsettled fate ≡ false → request ≡ None) → is_unsettled fate ≡ true
  still_unsettled request Open some out = refl
  still_unsettled request Cancelled some out = refl
  still_unsettled request (Answered f) some out = absurd (never (sym some ∙ ap is_some (out refl)))
  still_unsettled request Failed some out = absurd (never (sym some ∙ ap is_some (out refl)))
  still_unsettled request Lost some out = absurd (never (sym some ∙ ap is_some (out refl)))

  by_true : (request : Option Q) (fate : Fate F) → taken_by request fate ≡ Some true → (request ≡ None) × (fate ≡ Open)
  by_true None Open e = (refl, refl)
  by_true None Cancelled e = absurd (cc)
  by_true None (Answered f) e = absurd (cc)
  by_true None Failed e = absurd (cc)
  by_true None Lost e = absurd (cc)
  by_true (Some q) Open e = absurd (cc)
  by_true (Some q) Cancelled e = absurd (cc)
  by_true (Some q) (Answered f) e = absurd (cc)
  by_true (Some q) Failed e = absurd (cc)
  by_true (Some q) Lost e = absurd (cc)

  by_false : (request : Option Q) (fate : Fate F) → taken_by request fate ≡ Some false → (request ≡ None) × (fate ≡ Cancelled)
  by_false None Cancelled e = (refl, refl)
  by_false None Open e = absurd (cc)
  by_false None (Answered f) e = absurd (cc)
  by_false None Failed e = absurd (cc)
  by_false None Lost e = absurd (cc)
  by_false (Some q) Open e = absurd (cc)
  by_false (Some q) Cancelled e = absurd (cc)
  by_false (Some q) (Answered f) e = absurd (cc)
  by_false (Some q) Failed e = absurd (cc)
  by_false (Some q) Lost e = absurd (cc)

  pub by_none : (request : Option Q) (fate : Fate F) → taken_by request fate ≡ None → request ≡ None → (fate ≡ Open) ⊎ (fate ≡ Cancelled) → ⊥
  by_none request fate e out is = elim is [
    | inl o ↦ absurd (cc (sym e ∙ ap (λ (r : Option Q). taken_by r fate) out ∙ ap (taken_by {Q = Q} None) o))
    | inr c ↦ absurd (cc (sym e ∙ ap (λ (r : Option Q). taken_by r fate) out ∙ ap (taken_by {Q = Q} None) c))
  ]

  -- the message that was read
  pub record IsAt (slot : Option (Message Q F)) (fate : Fate F) : Type 0 where
    pub message : Message Q F
    pub is : slot ≡ Some message
    pub out : message.request ≡ None
    pub fate_is : message.fate ≡ fate

  pub taken_open : (slot : Option (Message Q F)) → taken_at slot ≡ Some true → IsAt slot Open
  taken_open None e = absurd (cc)
  taken_open (Some message) e = let r = by_true message.request message.fate e in record { message = message; is = refl; out = r.0; fate_is = r.1 }

  pub taken_cancelled : (slot : Option (Message Q F)) → taken_at slot ≡ Some false → IsAt slot Cancelled
  taken_cancelled None e = absurd (cc)
  taken_cancelled (Some message) e = let r = by_false message.request message.fate e in record { message = message; is = refl; out = r.0; fate_is = r.1 }

  pub fate_none : (slot : Option (Message Q F)) → fate_at slot ≡ None → slot ≡ None
  fate_none None e = refl
  fate_none (Some message) e = absurd (cc)

  pub fate_some : (slot : Option (Message Q F)) (fate : Fate (Unit {0})) → fate_at slot ≡ Some fate → (message : Message Q F) × (slot ≡ Some message) × (bare message.fate ≡ fate)
  fate_some None fate e = absurd (cc)
  fate_some (Some message) fate e = (message, refl, some_is (bare message.fate) fate e)

  pub queued_some : (slot : Option (Message Q F)) → is_queued slot ≡ true → (message : Message Q F) × (slot ≡ Some message) × (is_some message.request ≡ true)
  queued_some None e = absurd (cc)
  queued_some (Some message) e = (message, refl, e)
