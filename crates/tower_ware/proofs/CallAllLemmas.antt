-- A stream of calls, read from its end: what is left to yield at each state.
use Rattle.std.proofs.Common.{◌≡◌, ℕ, zero, suc, Bool, true, false, List, [], ◌∷◌, ◌++◌, ⊎_elim, Option, Some, None, Result, Ok, Err, refl, sym, ◌∙◌, ap, subst, append_assoc}
use Rattle.std.specs.List.{AllZip}
use Rattle.futures.specs.declared.task.Poll.{Poll}
use Rattle.futures.specs.declared.task.Poll.TheVariants.{Ready, Pending}
use Rattle.tower_base.specs.Gives.{MayGive, MayYield, NextAfter, Yields}
use Rattle.tower_base.specs.GivesLemmas.{yields_rest, yields_same, yields_value}
use Rattle.tower_base.specs.IterationsLemmas.{iterates_keeps}
use Rattle.tower_base.specs.declared.service.Flow.{Ghosts as FlowOf}
use Rattle.tower_base.specs.declared.service.Service.{Ghosts as ServiceOf}
use Rattle.tower_base.specs.declared.service.Steps.{Ghosts as StepsOf}
use Rattle.tower_ware.specs.CallAll.{AfterAsk, AfterFlow, AfterReady, Called, CallerView, Flowed, GoesOn, Iteration, yielded}
use Rattle.tower_ware.specs.CallOrder.{IsCalm, Serves, after_kept, answers_of, unfailing}
use Rattle.tower_ware.specs.declared.util.call_all.call_queue.CallQueue.{Ghosts as CallQueueOf}
use Rattle.tower_ware.specs.declared.util.call_all.error.Error.{Error}

-- A queue, by the answers that it may yet give, in call order. Same ties the call order of answers to the order in which they are yielded.
pub record Behaves {D N T : Type 0} (d : CallQueueOf D T N) (gives : N → T → Type 0) (Holds : D → List T → Type 0) (Same : List T → List T → Type 0) : Type 0 where
  pub answers : (old new : D) (x : T) (xs more ys : List T) → d.polled old (Ready (Some x)) new → Holds new xs → Same (xs ++ more) ys
      → (bs : List T) × Holds old bs × Same (bs ++ more) (x ∷ ys)
  pub waits : (old new : D) (xs : List T) → d.polled old Pending new → Holds new xs → Holds old xs
  pub ends : (old new : D) (xs : List T) → d.polled old (Ready None) new → Holds new xs → Holds old xs
  pub grows : (old new : D) (xs : List T) → d.grown old new → Holds new xs → Holds old xs
  pub pushes : (old new : D) (n : N) (xs : List T) → d.pushed old n new → Holds new xs
      → (bs : List T) × (x : T) × (xs ≡ bs ++ x ∷ []) × Holds old bs × gives n x
  pub none : (old : D) → d.empty old → Holds old []
  pub start : Same [] []

-- a poll of readiness that was pending, before the rest of a run
serves_wait : {V R A E N : Type 0} (sv : ServiceOf V R A E N) (qs : List R) (fs : List N) (u w : V) (end : Option V) → sv.polled u Pending w
    → Serves sv qs fs (Some w) end → Serves sv qs fs (Some u) end
serves_wait sv [] [] u w end p h = (suc h.0, (u, w, refl, p, h.1))
serves_wait sv [] (f ∷ fs) u w end p h = absurd h
serves_wait sv (q ∷ qs) [] u w end p h = absurd h
serves_wait sv (q ∷ qs) (f ∷ fs) u w end p h = (
  h.0,
  record {
    waited = suc h.1.waited;
    service = h.1.service;
    willing = h.1.willing;
    left = h.1.left;
    waits = (u, w, refl, p, h.1.waits);
    polled = h.1.polled;
    ready = h.1.ready;
    called = h.1.called;
    after = h.1.after;
  },
  h.2,
)

answers_yielded : {A E : Type 0} (x : Result A E) (items : List (Result A (Error E))) → answers_of (yielded x ∷ items) ≡ x ∷ answers_of items
answers_yielded (Ok x) items = refl
answers_yielded (Err e) items = refl

module _ {V Q D N A E R : Type 0} (sv : ServiceOf V R A E N) (fl : FlowOf Q R) (st : StepsOf N (Result A E)) (dr : CallQueueOf D (Result A E) N)
    (Holds : D → List (Result A E) → Type 0) (Same : List (Result A E) → List (Result A E) → Type 0)
    (queue : Behaves dr (MayGive st.stepped) Holds Same) where
  abbrev St : Type 0
  St = CallerView V Q D R

  abbrev It : Type 0
  It = List (Result A (Error E))

  abbrev ToCome : Bool → Q → List R → Type 0
  ToCome false f qs = MayYield fl.flowed f qs None
  ToCome true f qs = qs ≡ []

  -- these items are left: the answers of the calls in the queue, and of those to come
  pub record Rest (s : St) (items : It) : Type 0 where
    pub requests : List R
    pub futures : List N
    pub held : List (Result A E)
    pub more : List (Result A E)
    pub come : ToCome s.ended s.requests requests
    pub end : Option V
    pub made : Serves sv (after_kept s.kept requests) futures s.service end
    pub gave : AllZip (MayGive st.stepped) futures more
    pub holds : Holds s.queue held
    pub same : Same (held ++ more) (answers_of items)

  -- after the end of the requests none is kept
  abbrev Fine : St → Type 0
  Fine s = s.ended ≡ true → s.kept ≡ None

  -- what is left before an iteration or a poll, from what is left after it
  abbrev Back : St → Option (Poll (Option (Result A (Error E)))) → St → Type 0
  Back s None t = Fine s → Fine t × ((items : It) → Rest t items → Rest s items)
  Back s (Some Pending) t = Fine s → Fine t × ((items : It) → Rest t items → Rest s items)
  Back s (Some (Ready (Some x))) t = Fine s → Fine t × ((items : It) → Rest t items → Rest s (x ∷ items))
  Back s (Some (Ready None)) t = Fine s → Rest s []

  back_trans : (s t u : St) (o : Option (Poll (Option (Result A (Error E))))) → Back s None t → Back t o u → Back s o u
  back_trans s t u None a b = λ fine. let x = a fine in let y = b x.0 in (y.0, λ items rest. x.1 items (y.1 items rest))
  back_trans s t u (Some Pending) a b = λ fine. let x = a fine in let y = b x.0 in (y.0, λ items rest. x.1 items (y.1 items rest))
  back_trans s t u (Some (Ready (Some i))) a b = λ fine. let x = a fine in let y = b x.0 in (y.0, λ items rest. x.1 (i ∷ items) (y.1 items rest))
  back_trans s t u (Some (Ready None)) a b = λ fine. let x = a fine in x.1 [] (b x.0)

  abbrev mk : Option V → Q → D → Bool → Option R → St
  mk v f d b k = record { service = v; requests = f; queue = d; ended = b; kept = k }

  open_still : (k : Option R) → false ≡ true → k ≡ None
  open_still k e = absurd (cc)

  after_back : (f : Q) (d e : D) (q : R) (u w : V) (r : Poll (Result (Unit {0}) E)) (o : Option (Poll (Option (Result A (Error E))))) (t : St)
      → dr.grown d e → sv.polled u r w → IsCalm r
      → AfterReady (unfailing sv) fl dr (mk (Some u) f e false None) q w r o t → Back (mk (Some u) f d false (Some q)) o t
  after_back f d e q u w Pending o t big p calm h = rw (h.0, h.1)
      (λ fine. (
        open_still (Some q),
        λ items rest. record {
          requests = rest.requests;
          futures = rest.futures;
          held = rest.held;
          more = rest.more;
          come = rest.come;
          end = rest.end;
          made = serves_wait sv (q ∷ rest.requests) rest.futures u w rest.end p rest.made;
          gave = rest.gave;
          holds = queue.grows d e rest.held big rest.holds;
          same = rest.same;
        },
      ))
  after_back f d e q u w (Ready (Err x)) o t big p calm h = absurd calm
  after_back f d e q u w (Ready (Ok x)) o t big p calm h = rw (h.6, h.7)
      (λ fine. (
        open_still None,
        λ items rest.
            let put = queue.pushes e h.2 h.0 rest.held h.5 rest.holds in
            let tail : (put.0 ++ put.1 ∷ []) ++ rest.more ≡ put.0 ++ put.1 ∷ rest.more = simp append_assoc in
            record {
              requests = rest.requests;
              futures = h.0 ∷ rest.futures;
              held = put.0;
              more = put.1 ∷ rest.more;
              come = rest.come;
              end = rest.end;
              made = (
                Some h.1,
                record { waited = 0; service = u; willing = w; left = h.1; waits = refl; polled = p; ready = h.3; called = h.4; after = refl },
                rest.made,
              );
              gave = (put.4, rest.gave);
              holds = queue.grows d e put.0 big put.3;
              same = subst (λ ys. Same ys (answers_of items)) (ap (λ l. l ++ rest.more) put.2 ∙ tail) rest.same;
            },
      ))

  calls_back : (v : Option V) (f : Q) (d : D) (q : R) (o : Option (Poll (Option (Result A (Error E))))) (t : St)
      → Called (unfailing sv) fl dr (mk v f d false None) q o t → Back (mk v f d false (Some q)) o t
  calls_back v f d q o t h = ⊎_elim
      (λ refused. rw (refused.0, refused.1) (λ fine. (
        open_still (Some q),
        λ items rest. record {
          requests = rest.requests;
          futures = rest.futures;
          held = rest.held;
          more = rest.more;
          come = rest.come;
          end = rest.end;
          made = rest.made;
          gave = rest.gave;
          holds = queue.grows d h.0 rest.held h.1 rest.holds;
          same = rest.same;
        },
      )))
      (λ asks. subst (λ x. Back (mk x f d false (Some q)) o t) (sym asks.3)
      (after_back f d h.0 q asks.0 asks.1 asks.2 o t h.1 asks.4.0 asks.4.1
      (subst (λ x. AfterReady (unfailing sv) fl dr (mk x f h.0 false None) q asks.1 asks.2 o t) asks.3 asks.5))) h.2

  flow_back : (v : Option V) (f g : Q) (d : D) (p : Poll (Option R)) (o : Option (Poll (Option (Result A (Error E))))) (t : St) → fl.flowed f p g
      → AfterFlow (unfailing sv) fl dr (mk v g d false None) p o t → Back (mk v f d false None) o t
  flow_back v f g d Pending o t step h = rw (h.0, h.1) (λ fine. (
    open_still None,
    λ items rest. record {
      requests = rest.requests;
      futures = rest.futures;
      held = rest.held;
      more = rest.more;
      come = yields_same fl.flowed f Pending g step rest.requests None rest.come;
      end = rest.end;
      made = rest.made;
      gave = rest.gave;
      holds = rest.holds;
      same = rest.same;
    },
  ))
  flow_back v f g d (Ready None) o t step h = rw (h.0, h.1) (λ fine. (
    (λ e. refl),
    λ items rest. record {
      requests = rest.requests;
      futures = rest.futures;
      held = rest.held;
      more = rest.more;
      come = rw rest.come (yields_value fl.flowed f (Ready None) g step);
      end = rest.end;
      made = rest.made;
      gave = rest.gave;
      holds = rest.holds;
      same = rest.same;
    },
  ))
  flow_back v f g d (Ready (Some q)) o t step h = back_trans (mk v f d false None) (mk v g d false (Some q)) t o
      (λ fine. (
        open_still (Some q),
        λ items rest. record {
          requests = q ∷ rest.requests;
          futures = rest.futures;
          held = rest.held;
          more = rest.more;
          come = yields_rest fl.flowed f (Ready (Some q)) g step rest.requests None rest.come;
          end = rest.end;
          made = rest.made;
          gave = rest.gave;
          holds = rest.holds;
          same = rest.same;
        },
      ))
      (calls_back v g d q o t h)

  goes_back : (v : Option V) (f : Q) (d : D) (b : Bool) (k : Option R) (o : Option (Poll (Option (Result A (Error E))))) (t : St)
      → GoesOn (unfailing sv) fl dr b k (mk v f d b k) o t → Back (mk v f d b k) o t
  goes_back v f d true k o t h = ⊎_elim
      (λ over. rw over.1 (λ fine. let none = fine refl in record {
        requests = [];
        futures = [];
        held = [];
        more = [];
        come = refl;
        end = v;
        made = rw none (0, refl);
        gave = tt;
        holds = queue.none d over.0;
        same = queue.start;
      }))
      (λ left. rw (left.1, h.0) (λ fine. (fine, λ items rest. rest))) h.1
  goes_back v f d false (Some q) o t h = calls_back v f d q o t h
  goes_back v f d false None o t h = flow_back v f h.1 d h.0 o t h.2 h.3

  ask_back : (v : Option V) (f : Q) (d e : D) (b : Bool) (k : Option R) (p : Poll (Option (Result A E))) (o : Option (Poll (Option (Result A (Error E))))) (t : St)
      → dr.polled d p e → AfterAsk (unfailing sv) fl dr (mk v f e b k) p o t → Back (mk v f d b k) o t
  ask_back v f d e b k (Ready (Some x)) o t a h = rw (h.0, h.1) (λ fine. (
    fine,
    λ items rest.
        let left = queue.answers d e x rest.held rest.more (answers_of items) a rest.holds rest.same in
        record {
          requests = rest.requests;
          futures = rest.futures;
          held = left.0;
          more = rest.more;
          come = rest.come;
          end = rest.end;
          made = rest.made;
          gave = rest.gave;
          holds = left.1;
          same = rw (answers_yielded x items) left.2;
        },
  ))
  ask_back v f d e b k (Ready None) o t a h = back_trans (mk v f d b k) (mk v f e b k) t o
      (λ fine. (
        fine,
        λ items rest. record {
          requests = rest.requests;
          futures = rest.futures;
          held = rest.held;
          more = rest.more;
          come = rest.come;
          end = rest.end;
          made = rest.made;
          gave = rest.gave;
          holds = queue.ends d e rest.held a rest.holds;
          same = rest.same;
        },
      ))
      (goes_back v f e b k o t h)
  ask_back v f d e b k Pending o t a h = back_trans (mk v f d b k) (mk v f e b k) t o
      (λ fine. (
        fine,
        λ items rest. record {
          requests = rest.requests;
          futures = rest.futures;
          held = rest.held;
          more = rest.more;
          come = rest.come;
          end = rest.end;
          made = rest.made;
          gave = rest.gave;
          holds = queue.waits d e rest.held a rest.holds;
          same = rest.same;
        },
      ))
      (goes_back v f e b k o t h)

  abbrev Iterating : St → Option (Poll (Option (Result A (Error E)))) → St → Type 0
  Iterating = Iteration (unfailing sv) fl dr

  iteration_back : (s : St) (o : Option (Poll (Option (Result A (Error E))))) (t : St) → Iterating s o t → Back s o t
  iteration_back s o t h = ask_back s.service s.requests s.queue h.1 s.ended s.kept h.0 o t h.2 h.3

  abbrev Flowing : St → Poll (Option (Result A (Error E))) → St → Type 0
  Flowing = Flowed (unfailing sv) fl dr

  flows_back : (s : St) (a : Poll (Option (Result A (Error E)))) (t : St) → Flowing s a t → Back s (Some a) t
  flows_back s a t h =
      let went : Back s None h.iterations.last = iterates_keeps Iterating (λ w. Back s None w)
      (λ v w step back. back_trans s v w None back (iteration_back v None w step)) h.iterations.count s h.iterations.last h.iterations.went
      (λ fine. (fine, λ items rest. rest)) in
      ⊎_elim (λ answered. back_trans s h.iterations.last t (Some a) went (iteration_back h.iterations.last (Some a) t answered.1))
      (λ out. rw (out.1, out.2) went) h.iterations.ends

  next_back : (n : ℕ) (s : St) (x : Result A (Error E)) (items : It) (P : St → Type 0) → ((t : St) → Fine t → P t → Rest t items) → Fine s
      → NextAfter Flowing n s (Some x) P → Rest s (x ∷ items)
  next_back zero s x items P then fine h =
      let back = flows_back s (Ready (Some x)) h.0 h.1 fine in back.1 items (then h.0 back.0 h.2)
  next_back (suc n) s x items P then fine h =
      let back = flows_back s Pending h.0 h.1 fine in back.1 (x ∷ items) (next_back n h.0 x items P then back.0 h.2)

  next_end : (n : ℕ) (s : St) (P : St → Type 0) → Fine s → NextAfter Flowing n s None P → Rest s []
  next_end zero s P fine h = flows_back s (Ready None) h.0 h.1 fine
  next_end (suc n) s P fine h = let back = flows_back s Pending h.0 h.1 fine in back.1 [] (next_end n h.0 P back.0 h.2)

  yields_back : (items : It) (s : St) → Fine s → Yields Flowing items None s → Rest s items
  yields_back [] s fine h = next_end h.0 s (λ g. Unit {0}) fine h.1
  yields_back (x ∷ items) s fine h = next_back h.0 s x items (Yields Flowing items None) (λ t fine p. yields_back items t fine p) fine h.1

  -- a whole stream of calls
  pub whole_back : (s : St) (items : It) → Fine s → MayYield Flowing s items None → Rest s items
  unfolding MayYield
  whole_back s items fine h = yields_back items s fine h

  pub come_open : (b : Bool) (f g : Q) (qs : List R) → b ≡ false → f ≡ g → ToCome b f qs → MayYield fl.flowed g qs None
  come_open false f g qs goes same h = subst (λ q. MayYield fl.flowed q qs None) same h
  come_open true f g qs goes same h = absurd (cc)

  pub made_open : (k l : Option R) (v w e : Option V) (qs : List R) (fs : List N) → k ≡ l → v ≡ w → Serves sv (after_kept k qs) fs v e
      → Serves sv (after_kept l qs) fs w e
  made_open k l v w e qs fs kept serves h =
      subst (λ x. Serves sv (after_kept l qs) fs x e) serves (subst (λ x. Serves sv (after_kept x qs) fs v e) kept h)
