-- The order of calls, for both queues.
use Rattle.std.proofs.Common.{◌≡◌, true, false, List, [], ◌∷◌, ◌++◌, Option, Some, None, Result, refl, ◌∙◌, subst, ap}
use Rattle.std.specs.List.{AllZip}
use Rattle.std.specs.List.Sorted.{IsPermutation}
use Rattle.std.proofs.lemmas.List.Sorted.{IsPermutation-append_left, IsPermutation-cons, IsPermutation-middle, IsPermutation-refl, IsPermutation-trans}
use Rattle.futures.specs.declared.task.Poll.{Poll}
use Rattle.futures.specs.declared.task.Poll.TheVariants.{Ready, Pending}
use Rattle.tower_base.specs.Gives.{MayGive}
use Rattle.tower_base.specs.GivesLemmas.{gives_same, gives_value}
use Rattle.tower_base.specs.declared.service.Flow.{Ghosts as FlowOf}
use Rattle.tower_base.specs.declared.service.Service.{Ghosts as ServiceOf}
use Rattle.tower_base.specs.declared.service.Steps.{Ghosts as StepsOf}
use Rattle.tower_ware.specs.Bag.{EachPolled as FuturesPolled, Comes, answer_of, bag}
use Rattle.tower_ware.specs.CallAll.{CallerView}
use Rattle.tower_ware.specs.OrderedCalls.{AfterFront, EachPolled, SlotPolled, SlotsAsked, line}
use Rattle.tower_ware.specs.CallOrder.{InAnyOrder, InOrder}
use Rattle.tower_ware.specs.Queue.{Queue}
use Rattle.tower_ware.specs.declared.util.call_all.slot.Slot.{Slot}
use Rattle.tower_ware.specs.declared.util.call_all.slot.Slot.TheVariants.{Waiting, Answered}
use Rattle.tower_ware.proofs.CallAllLemmas.{Behaves, come_open, made_open, whole_back}

-- the last of a list and its partner
zip_split : {X Y : Type 0} (P : X → Y → Type 0) (xs : List X) (x : X) (ys : List Y) → AllZip P (xs ++ x ∷ []) ys
    → (zs : List Y) × (y : Y) × (ys ≡ zs ++ y ∷ []) × AllZip P xs zs × P x y
zip_split P [] x [] h = absurd h
zip_split P [] x (y ∷ []) h = ([], y, refl, tt, h.0)
zip_split P [] x (y ∷ z ∷ ys) h = absurd h.1
zip_split P (w ∷ xs) x [] h = absurd h
zip_split P (w ∷ xs) x (y ∷ ys) h =
    let rest = zip_split P xs x ys h.1 in (y ∷ rest.0, rest.1, ap (λ l. y ∷ l) rest.2, (h.0, rest.3), rest.4)

zip_none : {X Y : Type 0} (P : X → Y → Type 0) (xs : List X) (ys : List Y) → xs ≡ [] → AllZip P xs ys → ys ≡ []
zip_none P [] [] is h = refl
zip_none P [] (y ∷ ys) is h = absurd h
zip_none P (x ∷ xs) ys is h = absurd (cc)

module _ {N T : Type 0} (st : StepsOf N T) (can_poll : N → Type 0) where
  -- an answer that a call in an ordered queue may yet give
  abbrev SlotGives : Slot N T → T → Type 0
  SlotGives (Waiting f) x = MayGive st.stepped f x
  SlotGives (Answered r) x = x ≡ r

  abbrev pub LineHolds : Queue (Slot N T) → List T → Type 0
  LineHolds q xs = AllZip SlotGives q.calls xs

  slot_back : (s t : Slot N T) (x : T) → SlotPolled st s t → SlotGives t x → SlotGives s x
  slot_back (Waiting f) (Waiting g) x asked h = gives_same st.stepped f Pending g asked x h
  slot_back (Waiting f) (Answered r) x asked h = rw h (gives_value st.stepped f (Ready r) asked.0 asked.1)
  slot_back (Answered r) (Answered q) x asked h = h ∙ asked
  slot_back (Answered r) (Waiting g) x asked h = absurd asked

  each_back : (ss ts : List (Slot N T)) (xs : List T) → EachPolled st ss ts → AllZip SlotGives ts xs → AllZip SlotGives ss xs
  each_back [] ts xs asked h = subst (λ l. AllZip SlotGives l xs) asked h
  each_back (s ∷ ss) ts [] asked h = absurd (subst (λ l. AllZip SlotGives l []) asked.2.2 h)
  each_back (s ∷ ss) ts (x ∷ xs) asked h =
      let moved = subst (λ l. AllZip SlotGives l (x ∷ xs)) asked.2.2 h in
      (slot_back s asked.0 x asked.1 moved.0, each_back ss asked.2.0 xs asked.2.1 moved.1)

  front_answers : (f g : N) (rest ts : List (Slot N T)) (p : Poll T) (x : T) (xs : List T) → st.stepped f p g → AfterFront st g rest p (Ready (Some x)) ts
      → AllZip SlotGives ts xs → AllZip SlotGives (Waiting f ∷ rest) (x ∷ xs)
  front_answers f g rest ts (Ready r) x xs step h zip =
      let same : r ≡ x = (let e = h.0 in cc) in
      (subst (MayGive st.stepped f) same (gives_value st.stepped f (Ready r) g step), subst (λ l. AllZip SlotGives l xs) h.1 zip)
  front_answers f g rest ts Pending x xs step h zip = absurd (let e = h.0 in cc)

  line_answers : (ss ts : List (Slot N T)) (x : T) (xs : List T) → SlotsAsked st ss (Ready (Some x)) ts → AllZip SlotGives ts xs
      → AllZip SlotGives ss (x ∷ xs)
  line_answers [] ts x xs h zip = absurd (let e = h.0 in cc)
  line_answers (Answered r ∷ rest) ts x xs h zip =
      let same : x ≡ r = (let e = h.0 in cc) in (same, subst (λ l. AllZip SlotGives l xs) h.1 zip)
  line_answers (Waiting f ∷ rest) ts x xs h zip = front_answers f h.1 rest ts h.0 x xs h.2 h.3 zip

  front_waits : (f g : N) (rest ts : List (Slot N T)) (p : Poll T) (xs : List T) → st.stepped f p g → AfterFront st g rest p Pending ts
      → AllZip SlotGives ts xs → AllZip SlotGives (Waiting f ∷ rest) xs
  front_waits f g rest ts (Ready r) xs step h zip = absurd (let e = h.0 in cc)
  front_waits f g rest ts Pending [] step h zip = absurd (subst (λ l. AllZip SlotGives l []) h.1.2 zip)
  front_waits f g rest ts Pending (x ∷ xs) step h zip =
      let moved = subst (λ l. AllZip SlotGives l (x ∷ xs)) h.1.2 zip in
      (gives_same st.stepped f Pending g step x moved.0, each_back rest h.1.0 xs h.1.1 moved.1)

  line_waits : (ss ts : List (Slot N T)) (xs : List T) → SlotsAsked st ss Pending ts → AllZip SlotGives ts xs → AllZip SlotGives ss xs
  line_waits [] ts xs h zip = absurd (let e = h.0 in cc)
  line_waits (Answered r ∷ rest) ts xs h zip = absurd (let e = h.0 in cc)
  line_waits (Waiting f ∷ rest) ts xs h zip = front_waits f h.1 rest ts h.0 xs h.2 h.3 zip

  front_ends : (g : N) (rest ts : List (Slot N T)) (p : Poll T) → AfterFront st g rest p (Ready None) ts → ⊥
  front_ends g rest ts (Ready r) h = let e = h.0 in cc
  front_ends g rest ts Pending h = let e = h.0 in cc

  line_ends : (ss ts : List (Slot N T)) (xs : List T) → SlotsAsked st ss (Ready None) ts → AllZip SlotGives ts xs → AllZip SlotGives ss xs
  line_ends [] ts xs h zip = subst (λ l. AllZip SlotGives l xs) h.1 zip
  line_ends (Answered r ∷ rest) ts xs h zip = absurd (let e = h.0 in cc)
  line_ends (Waiting f ∷ rest) ts xs h zip = absurd (front_ends h.1 rest ts h.0 h.3)

  line_behaves : Behaves (line st can_poll) (MayGive st.stepped) LineHolds (λ xs ys. ys ≡ xs)
  line_behaves = record {
    answers = λ d e x xs more ys asked held same. (x ∷ xs, line_answers d.calls e.calls x xs asked.0 held, ap (λ l. x ∷ l) same);
    waits = λ d e xs asked held. line_waits d.calls e.calls xs asked.0 held;
    ends = λ d e xs asked held. line_ends d.calls e.calls xs asked.0 held;
    grows = λ d e xs grown held. subst (λ l. AllZip SlotGives l xs) grown held;
    pushes = λ d e n xs put held. zip_split SlotGives d.calls (Waiting n) xs (subst (λ l. AllZip SlotGives l xs) put.0 held);
    none = λ d none. rw none tt;
    start = refl;
  }

  abbrev pub BagHolds : Queue N → List T → Type 0
  BagHolds q xs = AllZip (MayGive st.stepped) q.calls xs

  bag_waits_at : (f g : N) (fs gs : List N) (p : Poll T) (xs : List T)
      → ((hs : List N) (ys : List T) → FuturesPolled st fs None hs → AllZip (MayGive st.stepped) hs ys → AllZip (MayGive st.stepped) fs ys) → st.stepped f p g
      → Comes (λ r. (◌≡◌ {A = Option T} None (Some r)) × (gs ≡ fs)) ((hs : List N) × FuturesPolled st fs None hs × (gs ≡ g ∷ hs)) p
      → AllZip (MayGive st.stepped) gs xs → AllZip (MayGive st.stepped) (f ∷ fs) xs
  bag_waits_at f g fs gs (Ready r) xs rest step h zip = absurd (let e = h.0 in cc)
  bag_waits_at f g fs gs Pending [] rest step h zip = absurd (subst (λ l. AllZip (MayGive st.stepped) l []) h.2 zip)
  bag_waits_at f g fs gs Pending (x ∷ xs) rest step h zip =
      let moved = subst (λ l. AllZip (MayGive st.stepped) l (x ∷ xs)) h.2 zip in
      (gives_same st.stepped f Pending g step x moved.0, rest h.0 xs h.1 moved.1)

  bag_waits : (fs gs : List N) (xs : List T) → FuturesPolled st fs None gs → AllZip (MayGive st.stepped) gs xs → AllZip (MayGive st.stepped) fs xs
  bag_waits [] gs xs h zip = subst (λ l. AllZip (MayGive st.stepped) l xs) h.1 zip
  bag_waits (f ∷ fs) gs xs h zip = bag_waits_at f h.1 fs gs h.0 xs (bag_waits fs) h.2 h.3 zip

  abbrev Left : List N → T → List T → Type 0
  Left fs x xs = (zs : List T) × AllZip (MayGive st.stepped) fs zs × IsPermutation zs (x ∷ xs)

  bag_answers_at : (f g : N) (fs gs : List N) (p : Poll T) (x : T) (xs : List T)
      → ((hs : List N) (ys : List T) → FuturesPolled st fs (Some x) hs → AllZip (MayGive st.stepped) hs ys → Left fs x ys) → st.stepped f p g
      → Comes (λ r. (Some x ≡ Some r) × (gs ≡ fs)) ((hs : List N) × FuturesPolled st fs (Some x) hs × (gs ≡ g ∷ hs)) p
      → AllZip (MayGive st.stepped) gs xs → Left (f ∷ fs) x xs
  bag_answers_at f g fs gs (Ready r) x xs more step h zip =
      let same : r ≡ x = (let e = h.0 in cc) in (
        x ∷ xs,
        (subst (MayGive st.stepped f) same (gives_value st.stepped f (Ready r) g step), subst (λ l. AllZip (MayGive st.stepped) l xs) h.1 zip),
        IsPermutation-refl (x ∷ xs),
      )
  bag_answers_at f g fs gs Pending x [] more step h zip = absurd (subst (λ l. AllZip (MayGive st.stepped) l []) h.2 zip)
  bag_answers_at f g fs gs Pending x (y ∷ ys) more step h zip =
      let moved = subst (λ l. AllZip (MayGive st.stepped) l (y ∷ ys)) h.2 zip in
      let rest = more h.0 ys h.1 moved.1 in (
        y ∷ rest.0,
        (gives_same st.stepped f Pending g step y moved.0, rest.1),
        IsPermutation-trans (y ∷ rest.0) (y ∷ x ∷ ys) (x ∷ y ∷ ys) (IsPermutation-cons y rest.0 (x ∷ ys) rest.2) (IsPermutation-middle (y ∷ []) x ys),
      )

  bag_answers : (fs gs : List N) (x : T) (xs : List T) → FuturesPolled st fs (Some x) gs → AllZip (MayGive st.stepped) gs xs → Left fs x xs
  bag_answers [] gs x xs h zip = absurd (let e = h.0 in cc)
  bag_answers (f ∷ fs) gs x xs h zip = bag_answers_at f h.1 fs gs h.0 x xs (λ hs ys. bag_answers fs hs x ys) h.2 h.3 zip

  -- what was first, from the poll's answer
  first_some : (fs : List N) (first : Option T) (x : T) → Ready (Some x) ≡ answer_of fs first → first ≡ Some x
  first_some fs (Some r) x e = cc
  first_some [] None x e = absurd (cc)
  first_some (f ∷ fs) None x e = absurd (cc)

  first_none : (fs : List N) (first : Option T) → Ready None ≡ answer_of fs first → first ≡ None
  first_none fs (Some r) e = absurd (cc)
  first_none fs None e = refl

  first_pending : (fs : List N) (first : Option T) → Pending ≡ answer_of fs first → first ≡ None
  first_pending fs (Some r) e = absurd (cc)
  first_pending fs None e = refl

  bag_behaves : Behaves (bag st can_poll) (MayGive st.stepped) BagHolds IsPermutation
  bag_behaves = record {
    answers = λ d e x xs more ys asked held same.
        let came = subst (λ o. FuturesPolled st d.calls o e.calls) (first_some d.calls asked.0 x asked.2) asked.1 in
        let left = bag_answers d.calls e.calls x xs came held in (
          left.0,
          left.1,
          IsPermutation-trans (left.0 ++ more) (x ∷ (xs ++ more)) (x ∷ ys)
              (IsPermutation-append_left more left.0 (x ∷ xs) left.2) (IsPermutation-cons x (xs ++ more) ys same),
        );
    waits = λ d e xs asked held. bag_waits d.calls e.calls xs
        (subst (λ o. FuturesPolled st d.calls o e.calls) (first_pending d.calls asked.0 asked.2) asked.1) held;
    ends = λ d e xs asked held. bag_waits d.calls e.calls xs
        (subst (λ o. FuturesPolled st d.calls o e.calls) (first_none d.calls asked.0 asked.2) asked.1) held;
    grows = λ d e xs grown held. subst (λ l. AllZip (MayGive st.stepped) l xs) grown held;
    pushes = λ d e n xs put held. zip_split (MayGive st.stepped) d.calls n xs (subst (λ l. AllZip (MayGive st.stepped) l xs) put.0 held);
    none = λ d none. rw none tt;
    start = IsPermutation-refl [];
  }

module _ {V Q N A E R : Type 0} (sv : ServiceOf V R A E N) (fl : FlowOf Q R) (st : StepsOf N (Result A E)) (can_poll : N → Type 0) where
  open_fine : {D : Type 0} (s : CallerView V Q D R) → s.ended ≡ false → s.ended ≡ true → s.kept ≡ None
  open_fine s goes ends = absurd (cc)

  pub in_order : (service : Option V) (stream : Q) (kept : Option R) → InOrder sv fl st can_poll service stream kept
  in_order service stream kept = λ s items opens came.
      let rest = whole_back sv fl st (line st can_poll) (LineHolds st can_poll) (λ xs ys. ys ≡ xs)
      (line_behaves st can_poll) s items (open_fine s opens.goes) came in
      let none = zip_none (SlotGives st can_poll) s.queue.calls rest.held opens.none rest.holds in
      record {
        requests = rest.requests;
        futures = rest.futures;
        end = rest.end;
        requested = come_open sv fl st (line st can_poll) (LineHolds st can_poll) (λ xs ys. ys ≡ xs)
            (line_behaves st can_poll) s.ended s.requests stream rest.requests opens.goes opens.asks rest.come;
        made = made_open sv fl st (line st can_poll) (LineHolds st can_poll) (λ xs ys. ys ≡ xs)
            (line_behaves st can_poll) s.kept kept s.service service rest.end rest.requests rest.futures opens.keeps opens.serves rest.made;
        gave = rw (rest.same, none) rest.gave;
      }

  pub in_any_order : (service : Option V) (stream : Q) (kept : Option R) → InAnyOrder sv fl st can_poll service stream kept
  in_any_order service stream kept = λ s items opens came.
      let rest = whole_back sv fl st (bag st can_poll) (BagHolds st can_poll) IsPermutation
      (bag_behaves st can_poll) s items (open_fine s opens.goes) came in
      let none = zip_none (MayGive st.stepped) s.queue.calls rest.held opens.none rest.holds in (
        rest.more,
        record {
          requests = rest.requests;
          futures = rest.futures;
          end = rest.end;
          requested = come_open sv fl st (bag st can_poll) (BagHolds st can_poll) IsPermutation
              (bag_behaves st can_poll) s.ended s.requests stream rest.requests opens.goes opens.asks rest.come;
          made = made_open sv fl st (bag st can_poll) (BagHolds st can_poll) IsPermutation
              (bag_behaves st can_poll) s.kept kept s.service service rest.end rest.requests rest.futures opens.keeps opens.serves rest.made;
          gave = rest.gave;
        },
        rw none at rest.same,
      )
