-- A poll of a buffer's worker is a run of its service, with the requests of messages alone.
use Rattle.std.proofs.Common.{◌≡◌, ℕ, zero, suc, Bool, true, false, inl, inr, ⊎_elim, refl, sym, subst, List, [], ◌∷◌, ◌++◌, Option, Some, None, IfSome, Result, Ok, Err}
use Rattle.std.specs.List.{AllByRecursion}
use Rattle.futures.specs.declared.task.Poll.{Poll}
use Rattle.futures.specs.declared.task.Poll.TheVariants.{Ready, Pending}
use Rattle.tower_base.specs.Iterations.{Iterates}
use Rattle.tower_base.specs.ServiceRun.{relations, Action, requests}
use Rattle.tower_base.specs.Projection.{RunInside}
use Rattle.tower_base.specs.ProjectionLemmas.{joined, requests_joined, no_action, one_poll}
use Rattle.tower_base.specs.declared.service.Service.{Ghosts as ServiceOf}
use Rattle.tower_buffer.specs.Worker.{WorkerView, AfterLive, AfterMessage, AfterPoll, AfterTake, Iteration, IterationAt, Serves, Stepped}
use Rattle.tower_buffer.specs.declared.buffer.mail.MailStep.{MailStep}
use Rattle.tower_buffer.specs.declared.buffer.mail.MailStep.TheVariants.{Take}
use Rattle.tower_buffer.specs.declared.buffer.mail.MailReply.{MailReply}
use Rattle.tower_buffer.specs.declared.buffer.mail.MailReply.TheVariants.{Message, Cleared, Empty, End, Truth, Unknown}
use Rattle.tower.specs.Projections.{IsMessage, RunsInWorker}

all_append : {X : Type 0} (P : X → Type 0) (xs ys : List X) → AllByRecursion P xs → AllByRecursion P ys → AllByRecursion P (xs ++ ys)
all_append P [] ys h k = k
all_append P (x ∷ xs) ys h k = (h.0, all_append P xs ys h.1 k)

module _ {L S Q A E F : Type 0} (gave : L → MailStep Q F E → MailReply Q F E → Type 0) (s : ServiceOf S Q A E F) (first : WorkerView L S Q) where
  abbrev View : Type 0
  View = WorkerView L S Q

  abbrev Is : Q → Type 0
  Is = IsMessage gave s first

  abbrev Runs : S → S → Type 0
  Runs old new = RunInside (relations s) (AllByRecursion Is) old new

  on : (old mid new : S) → Runs old mid → Runs mid new → Runs old new
  on old mid new before later = record {
    transitions = before.transitions ++ later.transitions;
    run = joined (relations s) old mid new before.transitions later.transitions before.run later.run;
    has = subst (AllByRecursion Is) (sym (requests_joined (relations s) before.transitions later.transitions))
        (all_append Is (requests before.transitions) (requests later.transitions) before.has later.has);
  }

  -- the same mail, and the message that is kept is one
  abbrev Keeps : View → Type 0
  Keeps v = (v.latch ≡ first.latch) × IfSome v.message (λ m. Is m.1)

  abbrev Leads : View → View → Type 0
  Leads old new = Keeps new × Runs old.service new.service

  stays : (old new : View) → Keeps old → new ≡ old → Leads old new
  stays old new keeps e = subst (λ v. Leads old v) (sym e) (keeps, no_action (relations s) old.service old.service refl tt)

  after_poll : (old : View) (left : S) (id : ℕ) (request : Q) (inner : Poll (Result (Unit {0}) E)) (answer : Option (Poll (Unit {0}))) (new : View) → Keeps old → Is request
      → s.polled old.service inner left → AfterPoll gave s (record old { service = left }) id request inner answer new → Leads old new
  after_poll old left id request Pending answer new keeps is polled h =
      subst (λ v. Leads old v) (sym h.1) ((keeps.0, is), one_poll (relations s) old.service left Pending polled tt)
  after_poll old left id request (Ready (Err e)) answer new keeps is polled h =
      subst (λ v. Leads old v) (sym h.2) ((keeps.0, tt), one_poll (relations s) old.service left (Ready (Err e)) polled tt)
  after_poll old left id request (Ready (Ok u)) answer new keeps is polled h =
      let c = h.1.1 in
      subst (λ v. Leads old v) (sym c.4) (
        keeps,
        record {
          transitions = record { action = Action.poll (Ready (Ok u)); left = left } ∷ record { action = Action.call request c.0; left = c.1 } ∷ [];
          run = (polled, ((h.1.0, c.2), refl));
          has = (is, tt);
        },
      )

  served : (old : View) (id : ℕ) (request : Q) (answer : Option (Poll (Unit {0}))) (new : View) → Keeps old → Is request → Serves gave s old id request answer new → Leads old new
  served old id request answer new keeps is h = after_poll old h.1 id request h.0 answer new keeps is h.2 h.3

  after_message : (failed : Bool) (old : View) (id : ℕ) (request : Q) (answer : Option (Poll (Unit {0}))) (new : View) → Keeps old → Is request
      → AfterMessage gave s failed old id request answer new → Leads old new
  after_message true old id request answer new keeps is h = stays old new keeps h.2
  after_message false old id request answer new keeps is h = served old id request answer new keeps is h

  taken : (old : View) (reply : MailReply Q F E) (answer : Option (Poll (Unit {0}))) (new : View) → Keeps old → gave old.latch Take reply
      → AfterTake gave s old reply answer new → Leads old new
  taken old (Message id request) answer new keeps came h =
      after_message old.has_failed old id request answer new keeps (inr (id, subst (λ latch. gave latch Take (Message id request)) keeps.0 came)) h
  taken old Cleared answer new keeps came h = stays old new keeps h.1
  taken old Empty answer new keeps came h = stays old new keeps h.1
  taken old End answer new keeps came h = stays old new keeps h.1
  taken old _ answer new keeps came h = absurd h

  lived : (old : View) (id : ℕ) (request : Q) (reply : MailReply Q F E) (answer : Option (Poll (Unit {0}))) (new : View) → Keeps old → Is request
      → AfterLive gave s old id request reply answer new → Leads old new
  lived old id request (Truth true) answer new keeps is h = served old id request answer new keeps is h
  lived old id request (Truth false) answer new keeps is h = stays old new keeps h.1
  lived old id request Unknown answer new keeps is h = stays old new keeps h.1
  lived old id request _ answer new keeps is h = absurd h

  passed : (message : Option (ℕ × Q)) (old : View) (answer : Option (Poll (Unit {0}))) (new : View) → old.message ≡ message → Keeps old
      → IterationAt gave s message old answer new → Leads old new
  passed None old answer new e keeps h = taken old h.0 answer new keeps h.1 h.2
  passed (Some m) old answer new e keeps h =
      lived (record old { message = None }) m.0 m.1 h.0 answer new (keeps.0, tt) (subst (λ o. IfSome o (λ m. Is m.1)) e keeps.1) h.2

  more : (old mid new : View) → Leads old mid → Leads mid new → Leads old new
  more old mid new before later = (later.0, on old.service mid.service new.service before.1 later.1)

  went : (n : ℕ) (old new : View) → Iterates (Iteration gave s) n old new → Keeps old → Leads old new
  unfolding Iterates
  went zero old new h keeps = stays old new keeps h
  went (suc n) old new h keeps =
      let before = went n old h.0 h.1 keeps in more old h.0 new before (passed h.0.message h.0 None new refl before.0 h.2)

  kept_first : (message : Option (ℕ × Q)) → first.message ≡ message → IfSome message (λ m. Is m.1)
  kept_first None e = tt
  kept_first (Some m) e = inl (m.0, e)

  pub worker : (answer : Poll (Unit {0})) (new : View) → Stepped gave s first answer new → RunsInWorker gave s first new
  worker answer new h =
      let before = went h.count first h.last h.went (refl, kept_first first.message refl) in
      (⊎_elim {C = Leads first new} (λ ends. more first h.last new before (passed h.last.message h.last (Some answer) new refl before.0 ends.1))
      (λ tired. subst (λ v. Leads first v) (sym tired.2) before) h.ends).1
