-- The rate of a limit inside a service that is waited for.
use Rattle.std.proofs.Common.{List}
use Rattle.tower_base.specs.Monotonic.{IsMonotonic}
use Rattle.tower_base.specs.Projection.{AtMostOnce, Projects, Through}
use Rattle.tower_base.specs.ProjectionLemmas.{projected}
use Rattle.tower_base.specs.ServiceRun.{relations, requests}
use Rattle.tower_base.specs.declared.service.Service.{Ghosts as ServiceOf}
use Rattle.tower_base.specs.declared.service.Clock.{Ghosts as ClockOf}
use Rattle.tower_limit.specs.Rate.{RateLimitView}
use Rattle.tower_limit.specs.RateRun.{rate_of}
use Rattle.tower_limit.proofs.RateRuns.{keeps_rate}
use Rattle.tower.specs.WaitRuns.{RunsWithin}
use Rattle.tower.specs.WaitRunsLemmas.{each_through}

module _ {W S C Q R A E F B D G : Type 0} (w : ServiceOf W Q B D G) (s : ServiceOf S R A E F) (c : ClockOf C) where
  pub runs_within : (inside : W → RateLimitView S C) (goes : Q → List R → Type 0) → IsMonotonic c.reading c.read → Projects (relations w) (rate_of s c) inside goes
      → RunsWithin w s c inside goes
  runs_within inside goes never each made old new ran =
      let there = projected (relations w) (rate_of s c) inside goes each old new ran.transitions ran.run in
      keeps_rate s c (Through AtMostOnce goes) made (inside old) (inside new) never (record {
        transitions = there.transitions;
        run = there.run;
        has = each_through AtMostOnce goes made (requests ran.transitions) (requests there.transitions) ran.has there.has;
      })
