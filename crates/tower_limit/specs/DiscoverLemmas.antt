-- What the discoveries of this crate may insert. A balancer over them requires that it is sound.
use Rattle.std.specs.Prelude.{◌≡◌, ℕ, Some, None, Ok, Err, refl}
use Rattle.std.specs.List.{AllByRecursion}
use Rattle.std.specs.declared.convert.Infallible.{Infallible}
use Rattle.std.proofs.Common.{subst, sym, ◌∙◌, inl, inr}
use Rattle.futures.specs.declared.task.Poll.TheVariants.{Ready, Pending}
use Rattle.tower_base.specs.GivesLemmas.{answers_now, answers_later, answers_kept}
use Rattle.tower_limit.specs.Constant.{ConstantView, loaded, Discovered as ConstantDiscovered}
use Rattle.tower_limit.specs.Discover.{Found, inserted, MayInsert, changed, ServiceListView, Listed}
use Rattle.tower_limit.specs.PendingRequests.{PendingRequestsView, PendingRequestsDiscoverView, counted, Discovered}
use Rattle.tower_limit.specs.declared.discover.Change.TheVariants.{Insert, Remove}
use Rattle.tower_limit.specs.declared.load.error.Error.{Error}
use Rattle.tower_limit.specs.declared.load.error.Error.TheVariants.{Inner}

-- If the result inserts a service, P holds of it.
abbrev Inserts : {K S E : Type 0} → (K → S → Type 0) → Found K S E → Type 0
Inserts P (Ready (Some (Ok (Insert key service)))) = P key service
Inserts P (Ready (Some (Ok (Remove key)))) = Unit {0}
Inserts P (Ready (Some (Err e))) = Unit {0}
Inserts P (Ready None) = Unit {0}
Inserts P Pending = Unit {0}

-- If P holds of the services, it holds of those that are inserted after each is changed.
through : {K S T E U : Type 0} (service : S → T) (error : E → U) (P : K → T → Type 0) (inner : Found K S E)
    → Inserts (λ key s. P key (service s)) inner → Inserts P (changed service error inner)
through service error P (Ready (Some (Ok (Insert key s)))) h = h
through service error P (Ready (Some (Ok (Remove key)))) h = tt
through service error P (Ready (Some (Err e))) h = tt
through service error P (Ready None) h = tt
through service error P Pending h = tt

module _ {D K S E : Type 0} (discovered : D → Found K S E → D → Type 0) where
  -- What a poll inserts is what the discovery may insert.
  pub inserts_now : (d : D) (key : K) (service : S) (e : D) → discovered d (inserted key service) e → MayInsert discovered d key service
  inserts_now d key service e h = answers_now discovered d (inserted key service) e h

  -- After a poll a discovery may insert no more than before it.
  pub inserts_later : (d : D) (answer : Found K S E) (e : D) → discovered d answer e
      → (key : K) (service : S) → MayInsert discovered e key service → MayInsert discovered d key service
  inserts_later d answer e h key service may = answers_later discovered d answer e h (inserted key service) may

  -- If each poll keeps I and inserts only what has P, whatever may be inserted has P.
  pub inserts_kept : (I : D → Type 0) (P : K → S → Type 0) → ((d : D) (a : Found K S E) (e : D) → I d → discovered d a e → Inserts P a × I e)
      → (d : D) (key : K) (service : S) → I d → MayInsert discovered d key service → P key service
  inserts_kept I P step d key service i may = answers_kept discovered I (Inserts P) step d (inserted key service) i may

  -- All that a poll inserts may be inserted.
  each_now : (d e : D) (a : Found K S E) → discovered d a e → Inserts (MayInsert discovered d) a
  each_now d e (Ready (Some (Ok (Insert key service)))) h = inserts_now d key service e h
  each_now d e (Ready (Some (Ok (Remove key)))) h = tt
  each_now d e (Ready (Some (Err x))) h = tt
  each_now d e (Ready None) h = tt
  each_now d e Pending h = tt

module _ {K S E : Type 0} {P R : K → S → Type 0} (more : (key : K) (service : S) → P key service → R key service) where
  each_more : (a : Found K S E) → Inserts P a → Inserts R a
  each_more (Ready (Some (Ok (Insert key service)))) h = more key service h
  each_more (Ready (Some (Ok (Remove key)))) h = tt
  each_more (Ready (Some (Err x))) h = tt
  each_more (Ready None) h = tt
  each_more Pending h = tt

module _ {S : Type 0} (P : S → Type 0) where
  list_keeps : (d : ServiceListView S) (a : Found ℕ S Infallible) (e : ServiceListView S)
      → AllByRecursion P d.services → Listed d a e → Inserts (λ _. P) a × AllByRecursion P e.services
  list_keeps d (Ready (Some (Ok (Insert key service)))) e all h = subst (AllByRecursion P) h.1 all
  list_keeps d (Ready None) e all h = (tt, subst (λ l. AllByRecursion P l.services) (sym h.1) all)
  list_keeps d (Ready (Some (Ok (Remove key)))) e all h = absurd h
  list_keeps d (Ready (Some (Err x))) e all h = absurd h
  list_keeps d Pending e all h = absurd h

  -- A list inserts only its own services.
  pub list_inserts : (list : ServiceListView S) → AllByRecursion P list.services → (key : ℕ) (service : S) → MayInsert Listed list key service → P service
  list_inserts list all key service may = inserts_kept Listed (λ d. AllByRecursion P d.services) (λ _. P) list_keeps list key service all may

module _ {D K S E M : Type 0} (discovered : D → Found K S E → D → Type 0) (first : ConstantView D M) where
  -- a discovery that was reached from the first one
  record IsLater (d : ConstantView D M) : Type 0 where
    may : (key : K) (service : S) → MayInsert discovered d.inner key service → MayInsert discovered first.inner key service
    load : d.load ≡ first.load

  -- what the inner discovery may insert, with the load
  abbrev Given : K → ConstantView S M → Type 0
  Given key made = MayInsert discovered first.inner key made.inner × (made.load ≡ first.load)

  constant_keeps : (d : ConstantView D M) (a : Found K (ConstantView S M) E) (e : ConstantView D M)
      → IsLater d → ConstantDiscovered discovered d a e → Inserts Given a × IsLater e
  constant_keeps d a e later h = (
    subst (Inserts Given) (sym h.answers)
        (through (loaded d.load) (λ x. x) Given h.inner
        (each_more (λ key service may. (later.may key service may, later.load)) h.inner (each_now discovered d.inner e.inner h.inner h.found))),
    record {
      may = λ key service may. later.may key service (inserts_later discovered d.inner h.inner e.inner h.found key service may);
      load = h.same ∙ later.load;
    },
  )

  -- A discovery with a load inserts what the inner one may insert, with that load.
  pub constant_inserts : (key : K) (made : ConstantView S M) → MayInsert (ConstantDiscovered discovered) first key made
      → MayInsert discovered first.inner key made.inner × (made.load ≡ first.load)
  constant_inserts key made may =
      inserts_kept (ConstantDiscovered discovered) IsLater Given constant_keeps first key made
      (record { may = λ _ _ m. m; load = refl }) may

module _ {D K S E C : Type 0} (discovered : D → Found K S E → D → Type 0) (first : PendingRequestsDiscoverView D C) where
  -- a discovery that was reached from the first one
  record IsAfter (d : PendingRequestsDiscoverView D C) : Type 0 where
    may : (key : K) (service : S) → MayInsert discovered d.discover key service → MayInsert discovered first.discover key service
    completion : d.completion ≡ first.completion

  module _ {L : Type 0} (is_first : L → Type 0) where
    -- what the inner discovery may insert, with the completion, over a latch that is no share of another
    abbrev Counts : K → PendingRequestsView S L C → Type 0
    Counts key made = MayInsert discovered first.discover key made.service × (made.completion ≡ first.completion) × is_first made.latch

    pending_keeps : (d : PendingRequestsDiscoverView D C) (a : Found K (PendingRequestsView S L C) (Error E)) (e : PendingRequestsDiscoverView D C)
        → IsAfter d → Discovered is_first discovered d a e → Inserts Counts a × IsAfter e
    pending_keeps d a e after (inl none) = (subst (Inserts Counts) (sym none.0) tt, subst IsAfter (sym none.1) after)
    pending_keeps d a e after (inr h) = (
      subst (Inserts Counts) (sym h.answers)
          (through (counted d.completion h.latch) Inner Counts h.inner
          (each_more (λ key service may. (after.may key service may, after.completion, h.first)) h.inner (each_now discovered d.discover e.discover h.inner h.found))),
      record {
        may = λ key service may. after.may key service (inserts_later discovered d.discover h.inner e.discover h.found key service may);
        completion = h.same ∙ after.completion;
      },
    )

    -- A discovery that counts requests inserts what the inner one may insert, with its completion, each over a latch that is no share of another.
    pub pending_inserts : (key : K) (made : PendingRequestsView S L C) → MayInsert (Discovered is_first discovered) first key made
        → MayInsert discovered first.discover key made.service × (made.completion ≡ first.completion) × is_first made.latch
    pending_inserts key made may =
        inserts_kept (Discovered is_first discovered) IsAfter Counts pending_keeps first key made
        (record { may = λ _ _ m. m; completion = refl }) may
