-- Where readiness never fails, each poll is one without a readiness error.
use Rattle.std.proofs.Common.{ℕ, zero, suc, Bool, true, false, List, [], ◌∷◌, inl, inr, ⊎_elim, Option, Some, None, Result, Ok, Err}
use Rattle.futures.specs.declared.task.Poll.{Poll}
use Rattle.futures.specs.declared.task.Poll.TheVariants.{Ready, Pending}
use Rattle.tower_base.specs.Gives.{MayYield, NextAfter, Yields}
use Rattle.tower_base.specs.Iterations.{Iterates}
use Rattle.tower_base.specs.declared.service.Flow.{Ghosts as FlowOf}
use Rattle.tower_base.specs.declared.service.Service.{Ghosts as ServiceOf}
use Rattle.tower_ware.specs.CallAll.{AfterAsk, AfterFlow, AfterReady, Called, CallerView, Flowed, GoesOn, Iteration}
use Rattle.tower_ware.specs.CallOrder.{IsCalm, unfailing}
use Rattle.tower_ware.specs.declared.util.call_all.call_queue.CallQueue.{Ghosts as CallQueueOf}
use Rattle.tower_ware.specs.declared.util.call_all.error.Error.{Error}

iterates_map : {V A : Type 0} (p q : V → Option A → V → Type 0) → ((v w : V) → p v None w → q v None w) → (n : ℕ) (v w : V) → Iterates p n v w → Iterates q n v w
unfolding Iterates
iterates_map p q h zero v w went = went
iterates_map p q h (suc n) v w went = (went.0, iterates_map p q h n v went.0 went.1, h went.0 w went.2)

module _ {F A : Type 0} (p q : F → Poll (Option A) → F → Type 0) (h : (f g : F) (a : Poll (Option A)) → p f a g → q f a g) where
  next_map : (n : ℕ) (f : F) (o : Option A) (P R : F → Type 0) → ((g : F) → P g → R g) → NextAfter p n f o P → NextAfter q n f o R
  next_map zero f o P R k x = (x.0, h f x.0 (Ready o) x.1, k x.0 x.2)
  next_map (suc n) f o P R k x = (x.0, h f x.0 Pending x.1, next_map n x.0 o P R k x.2)

  yields_map : (xs : List A) (last : Option A) (f : F) → Yields p xs last f → Yields q xs last f
  yields_map [] last f x = (x.0, next_map x.0 f last (λ g. Unit {0}) (λ g. Unit {0}) (λ g u. u) x.1)
  yields_map (y ∷ ys) last f x = (x.0, next_map x.0 f (Some y) (Yields p ys last) (Yields q ys last) (λ g r. yields_map ys last g r) x.1)

  pub may_yield_map : (f : F) (xs : List A) (last : Option A) → MayYield p f xs last → MayYield q f xs last
  unfolding MayYield
  may_yield_map f xs last x = yields_map xs last f x

module _ {V Q D N A E R : Type 0} (sv : ServiceOf V R A E N) (fl : FlowOf Q R) (dr : CallQueueOf D (Result A E) N)
    (never : (v w : V) (e : E) → ¬ sv.polled v (Ready (Err e)) w) where
  abbrev Outcome : Type 0
  Outcome = Option (Poll (Option (Result A (Error E))))

  calm : (v w : V) (r : Poll (Result (Unit {0}) E)) → sv.polled v r w → IsCalm r
  calm v w (Ready (Err e)) p = never v w e p
  calm v w (Ready (Ok u)) p = tt
  calm v w Pending p = tt

  after_calm : (s : CallerView V Q D R) (q : R) (w : V) (r : Poll (Result (Unit {0}) E)) (o : Outcome) (t : CallerView V Q D R)
      → AfterReady sv fl dr s q w r o t → AfterReady (unfailing sv) fl dr s q w r o t
  after_calm s q w Pending o t h = h
  after_calm s q w (Ready (Err e)) o t h = h
  after_calm s q w (Ready (Ok u)) o t h = h

  calls_calm : (s : CallerView V Q D R) (q : R) (o : Outcome) (t : CallerView V Q D R)
      → Called sv fl dr s q o t → Called (unfailing sv) fl dr s q o t
  calls_calm s q o t h = (
    h.0,
    h.1,
    ⊎_elim inl
        (λ a. inr (a.0, a.1, a.2, a.3, (a.4, calm a.0 a.1 a.2 a.4), after_calm (record s { queue = h.0 }) q a.1 a.2 o t a.5)) h.2,
  )

  flow_calm : (s : CallerView V Q D R) (p : Poll (Option R)) (o : Outcome) (t : CallerView V Q D R)
      → AfterFlow sv fl dr s p o t → AfterFlow (unfailing sv) fl dr s p o t
  flow_calm s Pending o t h = h
  flow_calm s (Ready None) o t h = h
  flow_calm s (Ready (Some q)) o t h = calls_calm s q o t h

  goes_calm : (b : Bool) (k : Option R) (s : CallerView V Q D R) (o : Outcome) (t : CallerView V Q D R)
      → GoesOn sv fl dr b k s o t → GoesOn (unfailing sv) fl dr b k s o t
  goes_calm true k s o t h = h
  goes_calm false (Some q) s o t h = calls_calm (record s { kept = None }) q o t h
  goes_calm false None s o t h = (h.0, h.1, h.2, flow_calm (record s { requests = h.1 }) h.0 o t h.3)

  ask_calm : (s : CallerView V Q D R) (p : Poll (Option (Result A E))) (o : Outcome) (t : CallerView V Q D R)
      → AfterAsk sv fl dr s p o t → AfterAsk (unfailing sv) fl dr s p o t
  ask_calm s (Ready (Some x)) o t h = h
  ask_calm s (Ready None) o t h = goes_calm s.ended s.kept s o t h
  ask_calm s Pending o t h = goes_calm s.ended s.kept s o t h

  iteration_calm : (s : CallerView V Q D R) (o : Outcome) (t : CallerView V Q D R)
      → Iteration sv fl dr s o t → Iteration (unfailing sv) fl dr s o t
  iteration_calm s o t h = (h.0, h.1, h.2, ask_calm (record s { queue = h.1 }) h.0 o t h.3)

  pub flows_calm : (s t : CallerView V Q D R) (a : Poll (Option (Result A (Error E)))) → Flowed sv fl dr s a t
      → Flowed (unfailing sv) fl dr s a t
  flows_calm s t a h = record {
    iterations = record {
      count = h.iterations.count;
      last = h.iterations.last;
      went = iterates_map (Iteration sv fl dr) (Iteration (unfailing sv) fl dr)
          (λ v w p. iteration_calm v None w p) h.iterations.count s h.iterations.last h.iterations.went;
      ends = ⊎_elim (λ x. inl (x.0, iteration_calm h.iterations.last (Some a) t x.1)) inr h.iterations.ends;
    };
  }
