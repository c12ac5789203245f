-- The load of a `PendingRequests` is what was counted less what is done.
use Rattle.std.proofs.Common.{◌≡◌, ℕ, ◌+◌, List, [], ◌∷◌, length, take, refl, sym, subst, arith}
use Rattle.std.proofs.Math.Logic.{∥∥₁_map}
use Rattle.std.proofs.lemmas.List.Edits.{length-remove}
use Rattle.std.proofs.lemmas.List.{length-append}
use Rattle.tower_latch.specs.HistoryLemmas.{serves_at, plain_run}
use Rattle.tower_latch.specs.Latch.{Serves, StepsAs, Came}
use Rattle.tower_latch.specs.LatchLemmas.{is_run}
use Rattle.tower_latch.specs.declared.Latch.{Ghosts as LatchOf}
use Rattle.tower_laws.specs.PendingRequests.{LoadIsPending, LoadsArePending, LoadsInHistory, counted, done, one_if_counted, one_if_done}
use Rattle.tower_limit.specs.CountCore.{Opens, StandsFor}
use Rattle.tower_limit.specs.Holders.{Holder, HolderSteps}
use Rattle.tower_limit.specs.PendingRequests.{PendingRequestsView}
use Rattle.tower_limit.specs.declared.load.pending_requests.count_core.CountCore.{CountCore}
use Rattle.tower_limit.specs.declared.load.pending_requests.count_core.CountStep.{CountStep}
use Rattle.tower_limit.specs.declared.load.pending_requests.count_core.CountStep.TheVariants.{Take, Give, Load}
use Rattle.tower_limit.specs.declared.load.pending_requests.count_core.CountReply.{CountReply}
use Rattle.tower_limit.specs.declared.load.pending_requests.count_core.CountReply.TheVariants.{Counted, Full, Done, Count, Unknown}

-- each step counts one, or stops counting one
step_counts : (old : List Holder) (step : CountStep) (reply : CountReply) (new : List Holder) → HolderSteps old step reply new
    → length new + one_if_done reply ≡ length old + one_if_counted reply
step_counts old Take Counted new h = subst (λ (l : List Holder). length l + 0 ≡ length old + 1) (sym h.1) (omega (arith, length-append old (Holder.holder ∷ [])))
step_counts old Take Full new h = subst (λ (l : List Holder). length l + 0 ≡ length old + 0) (sym h.1) refl
step_counts old Take Done new h = absurd h
step_counts old Take (Count n) new h = absurd h
step_counts old Take Unknown new h = absurd h
step_counts old Give Counted new h = absurd h
step_counts old Give Full new h = absurd h
step_counts old Give Done new h = subst (λ (l : List Holder). length l + 1 ≡ length old + 0) (sym h.2) (omega (arith, length-remove old h.0 h.1))
step_counts old Give (Count n) new h = absurd h
step_counts old Give Unknown new h = subst (λ (l : List Holder). length l + 0 ≡ length old + 0) (sym h.1) refl
step_counts old Load Counted new h = absurd h
step_counts old Load Full new h = absurd h
step_counts old Load Done new h = absurd h
step_counts old Load (Count n) new h = subst (λ (l : List Holder). length l + 0 ≡ length old + 0) (sym h.1) refl
step_counts old Load Unknown new h = absurd h

run_counts : (old : List Holder) (steps : List (CountStep × CountReply)) (new : List Holder) → Serves HolderSteps old steps new
    → length new + done steps ≡ length old + counted steps
run_counts old [] new run = subst (λ (l : List Holder). length l + 0 ≡ length old + 0) (sym run) refl
run_counts old (entry ∷ rest) new run =
    adds (length old) (length run.0) (length new) (one_if_done entry.1) (one_if_counted entry.1) (done rest) (counted rest)
    (step_counts old entry.0 entry.1 run.0 run.1) (run_counts run.0 rest new run.2)
  where
    adds : (a b c d n e m : ℕ) → b + d ≡ a + n → c + e ≡ b + m → c + (d + e) ≡ a + (n + m)
    adds a b c d n e m first more = omega (arith, first, more)

pub load_is_pending : LoadIsPending
load_is_pending steps now next load run reads =
    let all = run_counts [] steps now run in
    subst (λ (n : ℕ). n + done steps ≡ counted steps) (sym reads.0) (omega (arith, all))

pub loads_are_pending : {S L C : Type 0} (l : LatchOf L CountCore CountStep CountReply (Unit {0})) (pending : PendingRequestsView S L C)
    → ((step : CountStep) (reply : CountReply) → l.gave pending.latch step reply → Came Opens (StepsAs StandsFor HolderSteps) (λ (core : CountCore). tt {0}) (tt {0}) step reply)
    → LoadsArePending l pending
loads_are_pending l pending honest load loaded =
    let came = honest Load (Count load) loaded in
    ∥∥₁_map came.2 (λ reached.
    let past = is_run StandsFor HolderSteps reached.0 came.0 reached.1 [] reached.3 reached.2 in
    let next = came.3.1 past.0 past.2 in
    (reached.1, past.0, past.1, (next.1.0, refl), load_is_pending reached.1 past.0 next.0 load past.1 next.1))

pub loads_in_history : LoadsInHistory
loads_in_history core opening history held is legal place load at =
    let run = plain_run Opens StandsFor HolderSteps core [] opening history held is legal in
    let here = serves_at HolderSteps [] run.0 history place Load (Count load) run.1 at in
    load_is_pending (take place history) here.0 here.1 load here.2 here.3
