-- Pending polls one after another, and requests one after another.
use Rattle.std.specs.Prelude.{suc, List, [], ◌∷◌, ◌++◌, Result, Ok, Err, OnOk}
use Rattle.std.proofs.Common.{refl, subst}
use Rattle.futures.specs.Poll.{IfReady}
use Rattle.futures.specs.declared.task.Poll.{Poll}
use Rattle.futures.specs.declared.task.Poll.TheVariants.{Ready, Pending}
use Rattle.tower_base.specs.declared.service.Service.{Ghosts as ServiceOf}
use Rattle.tower.specs.Waits.{Pended, Answered, Each}

module _ {S A : Type 0} (polled : S → Poll A → S → Type 0) where
  -- no poll yet
  pub pended_start : (s : S) → Pended polled s s
  unfolding Pended
  pended_start s = (0, refl)

  -- one poll more
  pub pended_more : (old mid new : S) → Pended polled old mid → polled mid Pending new → Pended polled old new
  unfolding Pended
  pended_more old mid new p more = (suc p.0, (mid, p.1, more))

module _ {S E : Type 0} (ready : S → Type 0) (polled : S → Poll (Result (Unit {0}) E) → S → Type 0) where
  -- where an answer of `Ok` leaves a value that is ready, so does this one
  pub readied : ((old new : S) → polled old (Ready (Ok tt)) new → ready new)
      → (old : S) (answer : Poll (Result (Unit {0}) E)) (new : S) → polled old answer new → IfReady answer (λ r. OnOk r (ready new))
  readied readies old (Ready (Ok x)) new p = readies old new p
  readied readies old (Ready (Err e)) new p = tt
  readied readies old Pending new p = tt

module _ {S Q A E F C : Type 0} (s : ServiceOf S Q A E F) (stepped : F → Poll (Result A E) → F → Type 0)
    (told : C → Result A E → Unit {0} → C → Type 0) where
  -- one request more
  pub each_more : (requests : List Q) (request : Q) (answer : Result A E) (old mid new : S) (each heard last : C)
      → Each s stepped told requests old each mid heard → Answered s stepped mid request answer new → told heard answer tt last
      → Each s stepped told (requests ++ request ∷ []) old each new last
  each_more [] request answer old mid new each heard last h a t =
      (answer, new, last, subst (λ x. Answered s stepped x request answer new) h.0 a, subst (λ x. told x answer tt last) h.1 t, (refl, refl))
  each_more (q ∷ qs) request answer old mid new each heard last h a t =
      (h.0, h.1, h.2, h.3, h.4, each_more qs request answer h.1 mid new h.2 heard last h.5 a t)
