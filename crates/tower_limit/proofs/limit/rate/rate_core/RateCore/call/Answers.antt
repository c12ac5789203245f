use Rattle.std.proofs.Common.{◌≡◌, ◌∷◌, ◌∙◌, ℕ, take, refl, sym, ap, subst}
use Rattle.circular_buffer.specs.Buffer.{Buffer}
use Rattle.tower_limit.specs.Rate.{RateCoreView, StandsFor}
use Rattle.tower_limit.proofs.RateStands.{pushed}
use Rattle.tower_limit.proofs.limit.rate.rate_core.RateCore.call.Goals as goal

pub returns : goal.returns
returns c =
    let i = c.self.inside in
    let core : RateCoreView = record { num = i.rate.num; per = i.rate.per; kept = i.moments.items; admitted = i.admitted } in
    let at : core ≡ c.args.self.now = c.self.view_is in
    λ plain s.
    let held : StandsFor core plain = subst (λ (v : RateCoreView). StandsFor v plain) (sym at) s in
    record {
      takes = held.takes;
      number = held.number;
      period = held.period;
      last = ap (λ (b : Buffer ℕ). b.items) c.push_front-oldest.ensures.items
          ∙ ap (λ (n : ℕ). take n (c.args.moment ∷ core.kept)) c.self.invariant.0
          ∙ pushed core plain held c.args.moment;
      admission = refl;
    }
