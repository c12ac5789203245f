-- Each iteration of a worker keeps to the order, and so do all of them.
use Rattle.std.specs.Prelude.{◌≡◌, ◌⊎◌, ℕ, Bool, true, false, Option, None, Some, Result, Ok, Err}
use Rattle.std.proofs.Common.{refl, subst, sym, inl, inr}
use Rattle.futures.specs.declared.task.Poll.{Poll}
use Rattle.futures.specs.declared.task.Poll.TheVariants.{Ready, Pending}
use Rattle.tower_base.specs.IterationsLemmas.{iterations_map}
use Rattle.tower_base.specs.declared.service.Service.{Ghosts as ServiceOf}
use Rattle.tower_buffer.specs.Worker.{WorkerView, Iteration, IterationAt, HandsOn, AfterTake, AfterMessage, AfterLive, AfterPoll, Stepped}
use Rattle.tower_buffer.specs.WorkerOrder.{Book, Debt, Orderly, OrderlyIteration, WorkerSteps, book_of, debt_of}
use Rattle.tower_buffer.specs.declared.buffer.mail.MailStep.{MailStep}
use Rattle.tower_buffer.specs.declared.buffer.mail.MailStep.TheVariants.{Take, Live, Answer, Fail, FailStored}
use Rattle.tower_buffer.specs.declared.buffer.mail.MailReply.{MailReply}
use Rattle.tower_buffer.specs.declared.buffer.mail.MailReply.TheVariants.{Message, Cleared, Empty, End, Truth, Unknown}

module _ {L S Q A E F : Type 0} (gave : L → MailStep Q F E → MailReply Q F E → Type 0) (s : ServiceOf S Q A E F) where
  -- one step in that order, or two, lead to this worker
  abbrev Reach : L → Book → WorkerView L S Q → Type 0
  Reach latch start new = (new.latch ≡ latch) × ((n : ℕ) × WorkerSteps gave latch n start (book_of new) × ((n ≡ 1) ⊎ (n ≡ 2)))

  asked : (latch : L) (service : S) (failed : Bool) (id : ℕ) (request : Q) (answer : Option (Poll (Unit {0}))) (new : WorkerView L S Q) (start : Book)
      → WorkerSteps gave latch 1 start (record { failed = failed; debt = Debt.outcome id }) → (inner : Poll (Result (Unit {0}) E))
      → AfterPoll gave s (record { latch = latch; service = service; message = None; has_failed = failed }) id request inner answer new → Reach latch start new
  asked latch service failed id request answer new start w Pending p = subst (Reach latch start) (sym p.1) (refl, (1, w, inl refl))
  asked latch service failed id request answer new start w (Ready (Err e)) p =
      subst (Reach latch start) (sym p.2) (refl, (2, (record { failed = failed; debt = Debt.outcome id }, w, (Fail id e, p.1.0, p.1.1, (refl, refl))), inr refl))
  asked latch service failed id request answer new start w (Ready (Ok u)) p =
      let h : HandsOn gave s (record { latch = latch; service = service; message = None; has_failed = failed }) id request new = p.1 in
      subst (Reach latch start) (sym h.1.4) (refl, (2, (record { failed = failed; debt = Debt.outcome id }, w, (Answer id h.1.0, h.1.3.0, h.1.3.1, (refl, refl))), inr refl))

  messaged : (failed : Bool) (latch : L) (service : S) (id : ℕ) (request : Q) (answer : Option (Poll (Unit {0}))) (new : WorkerView L S Q)
      → gave latch Take (Message id request)
      → AfterMessage gave s failed (record { latch = latch; service = service; message = None; has_failed = failed }) id request answer new
      → Reach latch (record { failed = failed; debt = Debt.nothing }) new
  messaged true latch service id request answer new g p =
      subst (Reach latch (record { failed = true; debt = Debt.nothing })) (sym p.2) (
        refl,
        (
          2,
          (
            record { failed = true; debt = Debt.stored id },
            (record { failed = true; debt = Debt.nothing }, refl, (Take, Message id request, g, refl)),
            (FailStored id, p.1.0, p.1.1, (refl, refl)),
          ),
          inr refl,
        ),
      )
  messaged false latch service id request answer new g p =
      asked latch p.1 false id request answer new (record { failed = false; debt = Debt.nothing })
      (record { failed = false; debt = Debt.nothing }, refl, (Take, Message id request, g, refl)) p.0 p.3

  taken : (latch : L) (service : S) (failed : Bool) (answer : Option (Poll (Unit {0}))) (new : WorkerView L S Q) (reply : MailReply Q F E)
      → gave latch Take reply → AfterTake gave s (record { latch = latch; service = service; message = None; has_failed = failed }) reply answer new
      → Reach latch (record { failed = failed; debt = Debt.nothing }) new
  taken latch service failed answer new (Message id request) g p = messaged failed latch service id request answer new g p
  taken latch service failed answer new Cleared g p = subst (Reach latch (record { failed = failed; debt = Debt.nothing })) (sym p.1)
      (refl, (1, (record { failed = failed; debt = Debt.nothing }, refl, (Take, Cleared, g, refl)), inl refl))
  taken latch service failed answer new Empty g p = subst (Reach latch (record { failed = failed; debt = Debt.nothing })) (sym p.1)
      (refl, (1, (record { failed = failed; debt = Debt.nothing }, refl, (Take, Empty, g, refl)), inl refl))
  taken latch service failed answer new End g p = subst (Reach latch (record { failed = failed; debt = Debt.nothing })) (sym p.1)
      (refl, (1, (record { failed = failed; debt = Debt.nothing }, refl, (Take, End, g, refl)), inl refl))
  taken latch service failed answer new _ g p = absurd p

  lived : (latch : L) (service : S) (failed : Bool) (id : ℕ) (request : Q) (answer : Option (Poll (Unit {0}))) (new : WorkerView L S Q) (reply : MailReply Q F E)
      → gave latch (Live id) reply → AfterLive gave s (record { latch = latch; service = service; message = None; has_failed = failed }) id request reply answer new
      → Reach latch (record { failed = failed; debt = Debt.outcome id }) new
  lived latch service failed id request answer new (Truth true) g p =
      asked latch p.1 failed id request answer new (record { failed = failed; debt = Debt.outcome id })
      (record { failed = failed; debt = Debt.outcome id }, refl, (Live id, Truth true, g, (refl, refl))) p.0 p.3
  lived latch service failed id request answer new (Truth false) g p = subst (Reach latch (record { failed = failed; debt = Debt.outcome id })) (sym p.1)
      (refl, (1, (record { failed = failed; debt = Debt.outcome id }, refl, (Live id, Truth false, g, (refl, refl))), inl refl))
  lived latch service failed id request answer new Unknown g p = subst (Reach latch (record { failed = failed; debt = Debt.outcome id })) (sym p.1)
      (refl, (1, (record { failed = failed; debt = Debt.outcome id }, refl, (Live id, Unknown, g, (refl, refl))), inl refl))
  lived latch service failed id request answer new _ g p = absurd p

  passed : (latch : L) (service : S) (failed : Bool) (message : Option (ℕ × Q)) (answer : Option (Poll (Unit {0}))) (new : WorkerView L S Q)
      → IterationAt gave s message (record { latch = latch; service = service; message = message; has_failed = failed }) answer new
      → Reach latch (record { failed = failed; debt = debt_of message }) new
  passed latch service failed None answer new p = taken latch service failed answer new p.0 p.1 p.2
  passed latch service failed (Some message) answer new p = lived latch service failed message.0 message.1 answer new p.0 p.1 p.2

  pub iteration_orderly : (old : WorkerView L S Q) (answer : Option (Poll (Unit {0}))) (new : WorkerView L S Q)
      → Iteration gave s old answer new → OrderlyIteration gave old answer new
  iteration_orderly old answer new p =
      let r = passed old.latch old.service old.has_failed old.message answer new p in
      record { same = r.0; steps = r.1.0; some = r.1.2; works = r.1.1 }

  -- all polls of a worker keep to it
  pub poll_orderly : (old : WorkerView L S Q) (answer : Poll (Unit {0})) (new : WorkerView L S Q) → Stepped gave s old answer new → Orderly gave old answer new
  poll_orderly old answer new p = iterations_map (Iteration gave s) (OrderlyIteration gave) iteration_orderly Pending old answer new p
