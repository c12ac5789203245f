-- What holds of the history of mail that threads shared.
use Rattle.std.specs.Prelude.{◌≡◌, ◌⊎◌, ℕ, List, [], ◌∷◌, ◌++◌, take, Option, Some}
use Rattle.tower_latch.specs.Latch.{StepsAs}
use Rattle.tower_latch.specs.History.{IsLegal}
use Rattle.tower_buffer.specs.Mail.{MailSteps, initial}
use Rattle.tower_buffer.specs.Mailbox.{Opens, StandsFor}
use Rattle.tower_buffer.specs.declared.buffer.mail.MailStep.{MailStep}
use Rattle.tower_buffer.specs.declared.buffer.mail.MailStep.TheVariants.{Send, Take}
use Rattle.tower_buffer.specs.declared.buffer.mail.MailReply.{MailReply}
use Rattle.tower_buffer.specs.declared.buffer.mail.MailReply.TheVariants.{Sent, Message}
use Rattle.tower_buffer.specs.declared.buffer.mailbox.Mailbox.{Mailbox}

-- The first list is the second one with some elements left out.
abbrev pub Within : {X : Type 0} → List X → List X → Type 0
Within [] all = Unit {0}
Within (x ∷ part) [] = ⊥
Within (x ∷ part) (y ∷ all) = ((x ≡ y) × Within part all) ⊎ Within (x ∷ part) all

module _ {Q F E : Type 0} where
  abbrev pub sent_by : MailStep Q F E → MailReply Q F E → List (ℕ × Q)
  sent_by (Send request) (Sent id) = (id, request) ∷ []
  sent_by _ _ = []

  abbrev pub taken_by : MailStep Q F E → MailReply Q F E → List (ℕ × Q)
  taken_by Take (Message id request) = (id, request) ∷ []
  taken_by _ _ = []

  -- the messages that were sent, by their ids, and those that were taken, each in the order of the steps
  abbrev pub sent : List (MailStep Q F E × MailReply Q F E) → List (ℕ × Q)
  sent [] = []
  sent (step ∷ steps) = sent_by step.0 step.1 ++ sent steps

  abbrev pub taken : List (MailStep Q F E × MailReply Q F E) → List (ℕ × Q)
  taken [] = []
  taken (step ∷ steps) = taken_by step.0 step.1 ++ taken steps

-- If the log opened with initial mail, the messages that were taken are some of those that were sent, in the order of sending and each at most once,
-- in each prefix of the history.
abbrev pub TakenAsSent : (Q F E : Type 0) → Type 0
TakenAsSent Q F E =
    (bound : ℕ) (box : Mailbox Q F E) (opening : Option (Mailbox Q F E)) (history : List (MailStep Q F E × MailReply Q F E)) → StandsFor box (initial bound)
    → opening ≡ Some box → IsLegal Opens (StepsAs StandsFor MailSteps) opening history → (n : ℕ) → Within (taken (take n history)) (sent (take n history))
