-- The machine of `Oneshot`: the service is polled until it is ready, and then called at once. From then on the response is polled. An error of
-- readiness keeps the service and the request, and an error of the response keeps the response.
use Rattle.std.specs.Prelude.{◌≡◌, ◌⊎◌, Result, Ok, Err}
use Rattle.futures.specs.declared.task.Poll.{Poll}
use Rattle.futures.specs.declared.task.Poll.TheVariants.{Ready, Pending}
use Rattle.tower_base.specs.declared.service.Service.{Ghosts as ServiceOf}
use Rattle.tower_util.specs.declared.util.oneshot.State.{State}
use Rattle.tower_util.specs.declared.util.oneshot.State.TheVariants.{NotReady, InFlight, Done}

module _ {S Q A E F : Type 0} (s : ServiceOf S Q A E F) (stepped : F → Poll (Result A E) → F → Type 0) where
  -- The state after a poll of the response.
  abbrev pub After : Poll (Result A E) → F → State S Q F
  After (Ready (Ok x)) left = Done
  After (Ready (Err e)) left = InFlight left
  After Pending left = InFlight left

  -- A poll of the response.
  abbrev pub ResponseStepped : F → Poll (Result A E) → State S Q F → Type 0
  ResponseStepped old answer new = (left : F) × stepped old answer left × (new ≡ After answer left)

  -- The poll of readiness returned this, and left the service so.
  abbrev pub ReadinessPolled : S → Q → Poll (Result (Unit {0}) E) → Poll (Result A E) → State S Q F → Type 0
  ReadinessPolled service request Pending answer new = (answer ≡ Pending) × (new ≡ NotReady service request)
  ReadinessPolled service request (Ready (Err e)) answer new = (answer ≡ Ready (Err e)) × (new ≡ NotReady service request)
  ReadinessPolled service request (Ready (Ok x)) answer new = s.ready service
      × ((future : F) × (left : S) × s.called service request future left × ResponseStepped future answer new)

  -- A poll of the `Oneshot`.
  abbrev pub Stepped : State S Q F → Poll (Result A E) → State S Q F → Type 0
  Stepped (NotReady service request) answer new = (readiness : Poll (Result (Unit {0}) E)) × (left : S)
      × s.polled service readiness left × ReadinessPolled left request readiness answer new
  Stepped (InFlight future) answer new = ResponseStepped future answer new
  Stepped Done answer new = ⊥

-- Why a poll of the response may ask for another: the response's causes, be it kept or dropped with its output.
abbrev pub ResponseStirs : {S Q F : Type 0} → (F → F → Type 0) → F → State S Q F → Type 0
ResponseStirs stirs old (NotReady service request) = ⊥
ResponseStirs stirs old (InFlight new) = stirs old new
ResponseStirs {F = F} stirs old Done = (left : F) × stirs old left

-- Why a poll of the `Oneshot` may ask for another: the causes of what it polls. In the poll in which the service was ready these are the service's,
-- and those of the response that its call returned.
module _ {S Q A E F : Type 0} (s : ServiceOf S Q A E F) (stirs : F → F → Type 0) where
  -- the causes of a poll that called the service, and left this state
  abbrev pub CallStirs : S → Q → State S Q F → Type 0
  CallStirs old request new = ((left : S) × s.stirs old left)
      ⊎ ((ready : S) × (future : F) × (left : S) × s.called ready request future left × ResponseStirs stirs future new)

  abbrev pub Stirs : State S Q F → State S Q F → Type 0
  Stirs (NotReady old request) (NotReady new same) = s.stirs old new
  Stirs (NotReady old request) (InFlight new) = CallStirs old request (InFlight new)
  Stirs (NotReady old request) Done = CallStirs old request Done
  Stirs (InFlight old) new = ResponseStirs stirs old new
  Stirs Done new = ⊥
