-- What a poll of `ReadyOneshot` and of `Ready` says of what they give.
use Rattle.std.specs.Borrow.{MutBor}
use Rattle.std.specs.Prelude.{ℕ, Option, Some, None, IsSomeAnd, Result, Ok, Err}
use Rattle.std.proofs.Common.{◌∙◌}
use Rattle.futures.specs.Poll.{IfReady, OnPending}
use Rattle.futures.specs.Task.{Covers, Keeps}
use Rattle.futures.specs.declared.task.context.Context.{Context}
use Rattle.futures.specs.declared.task.Poll.{Poll}
use Rattle.futures.specs.declared.task.Poll.TheVariants.{Ready, Pending}
use Rattle.tower_base.specs.Gives.{MayGive}
use Rattle.tower_base.specs.GivesLemmas.{gives_value, gives_same}
use Rattle.tower_util.specs.Fuse.{needs_of}
use Rattle.tower_util.specs.Ready.{ReadinessPolled, ReadyOneshotStepped, ReadyStepped, GivesBack, HandsBack, IsReadyOneshotStep}

module _ {F A : Type 0} (stepped : F → Poll A → F → Type 0) (K : F → A → Type 0) where
  -- as `gives_value` and `gives_same`, with a fact beside
  pub value_and : (old : F) (answer : Poll A) (new : F) → stepped old answer new → IfReady answer (K old)
      → IfReady answer (λ out. MayGive stepped old out × K old out)
  value_and old (Ready x) new s k = (gives_value stepped old (Ready x) new s, k)
  value_and old Pending new s k = tt

  pub same_and : (old : F) (answer : Poll A) (new : F) → stepped old answer new → OnPending answer ((out : A) → K new out → K old out)
      → OnPending answer ((out : A) → MayGive stepped new out × K new out → MayGive stepped old out × K old out)
  same_and old (Ready x) new s k = tt
  same_and old Pending new s k = λ out h. (gives_same stepped old Pending new s out h.0, k out h.1)

module _ {S E : Type 0} (sound ready : S → Type 0) (polled : S → Poll (Result (Unit {0}) E) → S → Type 0) where
  given_back : (left : S) (inner : Poll (Result (Unit {0}) E)) (answer : Poll (Result S E)) (new : Option S)
      → ReadinessPolled sound ready polled left inner answer new → IfReady answer (GivesBack sound ready)
  given_back left Pending answer new h = rw h.0 tt
  given_back left (Ready (Err e)) answer new h = rw h.0 tt
  given_back left (Ready (Ok x)) answer new h = rw h.2 (h.0, h.1)

  -- a service that is given back is sound and ready
  pub gives_back : (old : Option S) (answer : Poll (Result S E)) (new : Option S) → ReadyOneshotStepped sound ready polled old answer new
      → IfReady answer (GivesBack sound ready)
  gives_back (Some old) answer new h = given_back h.1 h.0 answer new h.3
  gives_back None answer new h = absurd h

  -- one step is a poll of a `ReadyOneshot`
  pub gives_back_step : (needs : S → ℕ → Type 0) (old : Option S) (answer : Poll (Result S E)) (new : Option S) (before after : Context)
      → ReadyOneshotStepped sound ready polled old answer new → OnPending answer (IsSomeAnd new sound) → OnPending answer (Covers after (needs_of needs new))
      → Keeps before after → IsReadyOneshotStep sound ready polled needs old answer new before after
  gives_back_step needs old (Ready out) new before after s a r k =
      (s, (gives_value (ReadyOneshotStepped sound ready polled) old (Ready out) new s, gives_back old (Ready out) new s), k)
  gives_back_step needs old Pending new before after s a r k =
      (s, a, λ out h. (gives_same (ReadyOneshotStepped sound ready polled) old Pending new s out h.0, h.1), r, k)

  -- a loan that is handed back is the same, of a service that is sound and ready
  pub hands_back : (old : Option (MutBor S)) (answer : Poll (Result (MutBor S) E)) (new : Option (MutBor S))
      → ReadyStepped sound ready polled old answer new → IfReady answer (HandsBack sound ready old)
  hands_back (Some old) (Ready (Ok back)) None h = (h.1, h.2, h.3)
  hands_back (Some old) (Ready (Ok back)) (Some new) h = absurd h
  hands_back (Some old) (Ready (Err e)) new h = tt
  hands_back (Some old) Pending new h = tt
  hands_back None (Ready (Ok back)) new h = absurd h
  hands_back None (Ready (Err e)) new h = tt
  hands_back None Pending new h = tt

  -- what is handed back after a pending poll may be handed back before it
  pub hands_same : (old : Option (MutBor S)) (answer : Poll (Result (MutBor S) E)) (new : Option (MutBor S)) → ReadyStepped sound ready polled old answer new
      → OnPending answer ((out : Result (MutBor S) E) → HandsBack sound ready new out → HandsBack sound ready old out)
  hands_same old (Ready r) new h = tt
  hands_same (Some old) Pending None h = absurd h
  hands_same None Pending new h = absurd h
  hands_same (Some old) Pending (Some new) h = λ out. passed out
    where
      passed : (out : Result (MutBor S) E) → HandsBack sound ready (Some new) out → HandsBack sound ready (Some old) out
      passed (Ok back) k = (k.0, k.1, k.2 ∙ h.2)
      passed (Err e) k = tt
