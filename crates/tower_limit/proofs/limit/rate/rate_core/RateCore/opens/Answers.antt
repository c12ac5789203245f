use Rattle.std.proofs.Common.{◌≡◌, sym, subst, zero-le, ◌∙◌}
use Rattle.std.proofs.lemmas.Bool.{le-leb}
use Rattle.tower_limit.specs.Rate.{RateCoreView, StandsFor}
use Rattle.tower_limit.proofs.RateStands.{admits-some, admits-none}
use Rattle.tower_limit.proofs.limit.rate.rate_core.RateCore.opens.Goals as goal

pub returns-in-Some : goal.returns-in-Some
returns-in-Some c =
    let i = c.self.inside in
    let core : RateCoreView = record { num = i.rate.num; per = i.rate.per; kept = i.moments.items; admitted = i.admitted } in
    let at : core ≡ c.args.self.now = c.self.view_is in
    λ plain s moment. sym (admits-some core plain (subst (λ (v : RateCoreView). StandsFor v plain) (sym at) s) c.in-Some.call.now moment (sym c.in-Some.ensures))

pub returns-in-None : goal.returns-in-None
returns-in-None c =
    let i = c.self.inside in
    let core : RateCoreView = record { num = i.rate.num; per = i.rate.per; kept = i.moments.items; admitted = i.admitted } in
    let at : core ≡ c.args.self.now = c.self.view_is in
    λ plain s moment. sym (admits-none core plain (subst (λ (v : RateCoreView). StandsFor v plain) (sym at) s) moment (sym c.in-None.ensures)) ∙ sym (le-leb 0 moment zero-le)
