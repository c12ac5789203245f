-- What one entry's part of a poll leaves, and what a poll of all entries has done so far.
use Rattle.std.proofs.Common.{All, ℕ, zero, suc, ◌+◌, ◌≤◌, ◌≡◌, Bool, true, false, List, [], ◌∷◌, ◌++◌, Some, Result, Ok, Err, OnOk, inl, inr, ◌⊎◌, unwrap_or, length, append_assoc, slice_index_or, if◌then◌else◌, refl, sym, ap, ◌∙◌, subst, arith}
use Rattle.std.specs.List.{AllByRecursion}
use Rattle.std.proofs.lemmas.List.{append-nil}
use Rattle.std.proofs.lemmas.List.Elements.{All-append, All-cons, All-from_recursion, All-nil, recursion_from_All}
use Rattle.futures.specs.declared.task.Poll.{Poll}
use Rattle.futures.specs.declared.task.Poll.TheVariants.{Ready, Pending}
use Rattle.indexmap.specs.IndexMap.{insert_entry}
use Rattle.tower_base.specs.declared.service.Service.{Ghosts as ServiceOf}
use Rattle.tower_pool.specs.ReadyCache.{Askable, PendingView, ReadyCacheView, Sound}
use Rattle.tower_pool.specs.ReadyCachePoll.{Asked, PolledFirst, PollCases, IfThenElse, EachPolled, Ends, PendingPolled, rotated}
use Rattle.tower_pool.specs.declared.ready_cache.error.Error.{Error}
use Rattle.tower_pool.specs.declared.ready_cache.error.Error.TheVariants.{Failed, Memory}

module _ {K S : Type 0} (eq : K → K → Bool) where
  pub length-insert_entry : (es : List (K × S)) (k : K) (s : S) → length (insert_entry eq es k s) ≤ length es + 1
  length-insert_entry [] k s = omega arith
  length-insert_entry (e ∷ es) k s = by (length-insert_entry es k s) (eq k e.0)
    where
      by : length (insert_entry eq es k s) ≤ length es + 1 → (b : Bool) → length (if b then (e.0, s) ∷ es else e ∷ insert_entry eq es k s) ≤ suc (length es) + 1
      by rest true = omega arith
      by rest false = omega (arith, rest)

  each_insert : (P : S → Type 0) (es : List (K × S)) (k : K) (s : S) → P s → AllByRecursion (λ e. P e.1) es → AllByRecursion (λ e. P e.1) (insert_entry eq es k s)
  each_insert P [] k s now h = (now, tt)
  each_insert P (e ∷ es) k s now h = by (each_insert P es k s now h.1) (eq k e.0)
    where
      by : AllByRecursion (λ e. P e.1) (insert_entry eq es k s) → (b : Bool) → AllByRecursion (λ e. P e.1) (if b then (e.0, s) ∷ es else e ∷ insert_entry eq es k s)
      by rest true = (now, h.1)
      by rest false = (h.0, rest)

  pub All-insert_entry : (P : S → Type 0) (es : List (K × S)) (k : K) (s : S) → P s → All (λ e. P e.1) es → All (λ e. P e.1) (insert_entry eq es k s)
  All-insert_entry P es k s now h = All-from_recursion (λ e. P e.1) _ (each_insert P es k s now (recursion_from_All (λ e. P e.1) es h))

pub when_ok : {X E : Type 0} → (r : Result X E) (x : X) (P : Type 0) → r ≡ Ok x → OnOk r P → P
when_ok r x P e h = subst (λ r. OnOk r P) e h

pub when_some : {X : Type 0} → (x y : X) → Some x ≡ Some y → x ≡ y
when_some x y e = ap (λ r. unwrap_or r x) e

ready_pending : {X : Type 0} → (x : X) → Ready x ≡ Pending → ⊥
ready_pending x e = cc

abbrev tail : {X : Type 0} → List X → List X
tail [] = []
tail (x ∷ xs) = xs

pub rotated_more : {X : Type 0} → (n : ℕ) (xs : List X) → rotated n (rotated 1 xs) ≡ rotated (suc n) xs
rotated_more n [] = refl
rotated_more n (x ∷ xs) = refl

-- once so many first ones went last, they stand behind the others
pub rotated_is : {X : Type 0} → (xs ys : List X) → rotated (length xs) (xs ++ ys) ≡ ys ++ xs
rotated_is [] ys = sym (append-nil ys)
rotated_is (x ∷ xs) ys = ap (rotated (length xs)) (append_assoc xs ys (x ∷ [])) ∙ rotated_is xs (ys ++ x ∷ []) ∙ append_assoc ys (x ∷ []) xs

module _ {K S : Type 0} (eq : K → K → Bool) (sound : S → Type 0) (was old : ReadyCacheView K S) (same : was ≡ old) (h : Sound sound old) (q : PendingView K S) (mid : List (PendingView K S)) (there : was.pending ≡ q ∷ mid) where
  back : Sound sound was
  back = subst (Sound sound) (sym same) h

  parts : AllByRecursion (Askable sound) (q ∷ mid)
  parts = recursion_from_All (Askable sound) (q ∷ mid) (subst (All (Askable sound)) there back.pending)

  -- the first entry's service, unless the entry is cancelled
  pub sound_first : Askable sound q
  sound_first = parts.0

  rest : All (Askable sound) mid
  rest = All-from_recursion (Askable sound) mid parts.1

  pub sound_gone : (es : List (K × S)) (ps : List (PendingView K S)) → es ≡ was.ready → ps ≡ mid → Sound sound (record { ready = es; pending = ps })
  sound_gone es ps e gone = record {
    ready = subst (All (λ e. sound e.1)) (sym e) back.ready;
    pending = subst (All (Askable sound)) (sym gone) rest;
  }

  pub sound_last : (es : List (K × S)) (ps : List (PendingView K S)) (w : PendingView K S) → es ≡ was.ready → sound w.service → ps ≡ mid ++ w ∷ [] → Sound sound (record { ready = es; pending = ps })
  sound_last es ps w e now last = record {
    ready = subst (All (λ e. sound e.1)) (sym e) back.ready;
    pending = subst (All (Askable sound)) (sym last) (All-append (Askable sound) mid (w ∷ []) rest (All-cons (Askable sound) w [] (λ _. now) (All-nil (Askable sound))));
  }

  pub sound_ready : (es : List (K × S)) (ps : List (PendingView K S)) (k : K) (v : S) → sound v → es ≡ insert_entry eq was.ready k v → ps ≡ mid → Sound sound (record { ready = es; pending = ps })
  sound_ready es ps k v now e gone = record {
    ready = subst (All (λ e. sound e.1)) (sym e) (All-insert_entry eq sound was.ready k v now back.ready);
    pending = subst (All (Askable sound)) (sym gone) rest;
  }

-- services stay where the first ones go last
pub sound_rotated : {K S : Type 0} → (sound : S → Type 0) (es es' : List (K × S)) (ps ps' : List (PendingView K S)) (n : ℕ) → es' ≡ es → ps' ≡ rotated n ps → Sound sound (record { ready = es; pending = ps }) → Sound sound (record { ready = es'; pending = ps' })
sound_rotated {K} {S} sound es es' ps ps' n e is h = record {
  ready = subst (All (λ e. sound e.1)) (sym e) h.ready;
  pending = subst (All (Askable sound)) (sym is) (by n ps h.pending);
}
  where
    by : (n : ℕ) (ps : List (PendingView K S)) → All (Askable sound) ps → All (Askable sound) (rotated n ps)
    by zero ps h = h
    by (suc n) [] h = by n [] h
    by (suc n) (p ∷ ps) h =
        let r = recursion_from_All (Askable sound) (p ∷ ps) h in
        by n (ps ++ p ∷ []) (All-append (Askable sound) ps (p ∷ []) (All-from_recursion (Askable sound) ps r.1) (All-cons (Askable sound) p [] r.0 (All-nil (Askable sound))))

-- the cases of a test
by_test : {P P' Q Q' : Type 0} → (b : Bool) → (P → P') → (Q → Q') → IfThenElse b P Q → IfThenElse b P' Q'
by_test true f g h = f h
by_test false f g h = g h

one_of : {P : Type 0} → (b : Bool) → IfThenElse b P P → P
one_of true h = h
one_of false h = h

module _ {K S Q A E G : Type 0} (eq : K → K → Bool) (s : ServiceOf S Q A E G) where
  -- the first entry's part, seen from the fields as they were
  pub asked_by : (was old : ReadyCacheView K S) → was ≡ old → (q : PendingView K S) (mid : List (PendingView K S)) → was.pending ≡ q ∷ mid → (answer : Result Bool (Error K E)) (new : ReadyCacheView K S)
      → Asked eq s was.ready q mid answer new → PolledFirst eq s old answer new
  asked_by was old same q mid there answer new h = subst (λ v. PolledFirst eq s v answer new) same by
    where
      by : PolledFirst eq s was answer new
      by p others e = subst {A = PendingView K S × List (PendingView K S)} (λ x. Asked eq s was.ready x.0 x.1 answer new) (λ j. (slice_index_or ((sym there ∙ e) j) 0 q, tail ((sym there ∙ e) j))) h

  -- what an entry that isn't cancelled adds to a poll
  abbrev OneAsked : List (PendingView K S) → PendingView K S → List (PendingView K S) → List (K × S) → Poll (Result (Unit {0}) (Error K E)) → ReadyCacheView K S → Type 0
  OneAsked asked p rest ready answer new =
      ((answer ≡ Ready (Err Memory)) × (new ≡ record { ready = ready; pending = asked ++ p ∷ rest }))
      ⊎ ((inner : Poll (Result (Unit {0}) E)) × (left : S) × s.polled p.service inner left × PollCases inner
      (EachPolled eq s asked rest (insert_entry eq ready p.key left) answer new)
      (λ e. (answer ≡ Ready (Err (Failed p.key e))) × (new ≡ record { ready = ready; pending = asked ++ rest }))
      (EachPolled eq s (asked ++ (record p { service = left }) ∷ []) rest ready answer new))

  going : (asked : List (PendingView K S)) (p : PendingView K S) (rest : List (PendingView K S)) (ready : List (K × S)) (answer : Poll (Result (Unit {0}) (Error K E))) (new : ReadyCacheView K S)
      → p.cancelled ≡ false → OneAsked asked p rest ready answer new → EachPolled eq s asked (p ∷ rest) ready answer new
  going asked p rest ready answer new c h = subst (λ b. IfThenElse b (EachPolled eq s asked rest ready answer new) (OneAsked asked p rest ready answer new)) (sym c) h

  -- So far a poll has asked the entries that stand last, all of which wait, and what it does with the first ones is all that it does.
  pub record Asking (old now : ReadyCacheView K S) (left : ℕ) (waits : Bool) : Type 0 where
    pub asked : List (PendingView K S)
    pub rest : List (PendingView K S)
    pub is : now.pending ≡ rest ++ asked
    pub at : length rest ≡ left
    pub ends : Ends {E = Error K E} asked (if waits then Pending else Ready (Ok tt))
    pub goes : (answer : Poll (Result (Unit {0}) (Error K E))) (new : ReadyCacheView K S) → EachPolled eq s asked rest now.ready answer new → PendingPolled eq s old answer new

  pub asking_begins : (old : ReadyCacheView K S) → Asking old old (length old.pending) false
  asking_begins old = record { asked = []; rest = old.pending; is = sym (append-nil old.pending); at = refl; ends = refl; goes = λ answer new h. h }

  module _ (old was now : ReadyCacheView K S) (left : ℕ) (waits : Bool) (h : Asking old was (suc left) waits) where
    abbrev Going : List (PendingView K S) → List (PendingView K S) → Type 0
    Going asked rest = (answer : Poll (Result (Unit {0}) (Error K E))) (new : ReadyCacheView K S) → EachPolled eq s asked rest was.ready answer new → PendingPolled eq s old answer new

    last_waits : (asked : List (PendingView K S)) (q : PendingView K S) → Ends {E = Error K E} (asked ++ q ∷ []) Pending
    last_waits [] q = refl
    last_waits (x ∷ asked) q = refl

    pub asking_waits : PolledFirst eq s was (Ok true) now → Asking old now left true
    asking_waits turn = by h.rest h.asked h.is h.at h.goes
      where
        by : (rest asked : List (PendingView K S)) → was.pending ≡ rest ++ asked → length rest ≡ suc left → Going asked rest → Asking old now left true
        by [] asked is at goes = absurd (omega arith)
        by (p ∷ rest) asked is at goes =
            let t = turn p (rest ++ asked) is in
            record {
              asked = asked ++ (record p { service = t.1.0 }) ∷ [];
              rest = rest;
              is = ap (λ v. v.pending) t.1.2 ∙ append_assoc rest asked ((record p { service = t.1.0 }) ∷ []);
              at = let e : length rest ≡ left = omega (arith, at) in e;
              ends = last_waits asked (record p { service = t.1.0 });
              goes = λ answer new h. goes answer new (going asked p rest was.ready answer new t.0
                  (inr (Pending, t.1.0, t.1.1, subst (λ v. EachPolled eq s (asked ++ (record p { service = t.1.0 }) ∷ []) rest v.ready answer new) t.1.2 h)));
            }

    pub asking_left : PolledFirst eq s was (Ok false) now → Asking old now left waits
    asking_left turn = by h.rest h.asked h.is h.at h.ends h.goes
      where
        by : (rest asked : List (PendingView K S)) → was.pending ≡ rest ++ asked → length rest ≡ suc left → Ends {E = Error K E} asked (if waits then Pending else Ready (Ok tt)) → Going asked rest → Asking old now left waits
        by [] asked is at ends goes = absurd (omega arith)
        by (p ∷ rest) asked is at ends goes =
            let t = turn p (rest ++ asked) is in
            record {
              asked = asked;
              rest = rest;
              is = one_of p.cancelled (by_test p.cancelled (λ e. ap (λ v. v.pending) e) (λ l. ap (λ v. v.pending) l.2) t);
              at = let e : length rest ≡ left = omega (arith, at) in e;
              ends = ends;
              goes = λ answer new h. goes answer new (by_test p.cancelled (λ e. subst (λ v. EachPolled eq s asked rest v.ready answer new) e h)
                  (λ l. inr (Ready (Ok tt), l.0, l.1, subst (λ v. EachPolled eq s asked rest v.ready answer new) l.2 h)) t);
            }

    -- it stops, once the entries that weren't asked went last again
    pub asking_stops : (error : Error K E) (new : ReadyCacheView K S) → PolledFirst eq s was (Err error) now → new.ready ≡ now.ready → new.pending ≡ rotated left now.pending → PendingPolled eq s old (Ready (Err error)) new
    asking_stops error new turn ready pending = by error h.rest h.asked h.is h.at h.goes turn
      where
        by : (error : Error K E) (rest asked : List (PendingView K S)) → was.pending ≡ rest ++ asked → length rest ≡ suc left → Going asked rest
            → PolledFirst eq s was (Err error) now → PendingPolled eq s old (Ready (Err error)) new
        by error [] asked is at goes turn = absurd (omega arith)
        by Memory (p ∷ rest) asked is at goes turn =
            let t = turn p (rest ++ asked) is in
            let n : left ≡ length rest = omega (arith, at) in
            goes (Ready (Err Memory)) new (going asked p rest was.ready (Ready (Err Memory)) new t.0 (inl (
              refl,
              λ j. record {
                ready = (ready ∙ ap (λ v. v.ready) t.1) j;
                pending = (pending ∙ (λ i. rotated (n i) ((ap (λ v. v.pending) t.1 ∙ append_assoc rest asked (p ∷ [])) i)) ∙ rotated_is rest (asked ++ p ∷ []) ∙ append_assoc asked (p ∷ []) rest) j;
              },
            )))
        by (Failed k e) (p ∷ rest) asked is at goes turn =
            let t = turn p (rest ++ asked) is in
            let n : left ≡ length rest = omega (arith, at) in
            goes (Ready (Err (Failed k e))) new (going asked p rest was.ready (Ready (Err (Failed k e))) new t.0 (inr (
              Ready (Err e),
              t.2.0,
              t.2.1,
              (
                ap (λ k. Ready (Err (Failed k e))) t.1,
                λ j. record {
                  ready = (ready ∙ ap (λ v. v.ready) t.2.2) j;
                  pending = (pending ∙ (λ i. rotated (n i) (ap (λ v. v.pending) t.2.2 i)) ∙ rotated_is rest asked) j;
                },
              ),
            )))

  pub asking_ends : (old was : ReadyCacheView K S) (waits : Bool) → Asking old was 0 waits → PendingPolled eq s old (if waits then Pending else Ready (Ok tt)) was
  asking_ends old was waits h = by h.rest h.asked h.is h.at h.ends h.goes
    where
      by : (rest asked : List (PendingView K S)) → was.pending ≡ rest ++ asked → length rest ≡ 0 → Ends {E = Error K E} asked (if waits then Pending else Ready (Ok tt))
          → ((answer : Poll (Result (Unit {0}) (Error K E))) (new : ReadyCacheView K S) → EachPolled eq s asked rest was.ready answer new → PendingPolled eq s old answer new)
          → PendingPolled eq s old (if waits then Pending else Ready (Ok tt)) was
      by [] asked is at ends goes = goes (if waits then Pending else Ready (Ok tt)) was (ends, λ j. record { ready = was.ready; pending = is j })
      by (p ∷ rest) asked is at ends goes = absurd (omega arith)

  -- none is left where it is done
  pub asking_done : (old was : ReadyCacheView K S) → Asking old was 0 false → was.pending ≡ []
  asking_done old was h = h.is ∙ by h.rest h.asked h.at h.ends
    where
      by : (rest asked : List (PendingView K S)) → length rest ≡ 0 → Ends {E = Error K E} asked (Ready (Ok tt)) → rest ++ asked ≡ []
      by [] [] at ends = refl
      by [] (x ∷ asked) at ends = absurd (ready_pending (Ok tt) ends)
      by (p ∷ rest) asked at ends = absurd (omega arith)
