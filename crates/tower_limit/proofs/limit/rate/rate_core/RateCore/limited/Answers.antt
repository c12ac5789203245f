use Rattle.std.proofs.Common.{◌≡◌, ◌≢◌, ◌≤◌, ◌∙◌, ℕ, true, length, nat_eq, sym, ap, subst}
use Rattle.tower_limit.specs.Rate.{RateCoreView, StandsFor, Stands, may_call}
use Rattle.tower_limit.proofs.RateStands.{stands, full, free_may}
use Rattle.tower_limit.proofs.limit.rate.rate_core.RateCore.limited.Goals as goal

pub returns : goal.returns
returns c =
    let i = c.self.inside in
    let core : RateCoreView = record { num = i.rate.num; per = i.rate.per; kept = i.moments.items; admitted = i.admitted } in
    let at : core ≡ c.args.self.now = c.self.view_is in
    let counts : core.num ≢ 0 = i.rate.counts in
    let fits : length core.kept ≤ core.num = c.self.invariant.1 in
    record {
      full = ap (λ (n : ℕ). nat_eq n core.num) c.len.ensures.len ∙ ap (λ (v : RateCoreView). nat_eq (length v.kept) v.num) at;
      limited = λ plain s. ap (λ (n : ℕ). nat_eq n core.num) c.len.ensures.len
          ∙ full core plain (subst (λ (v : RateCoreView). StandsFor v plain) (sym at) s);
      stands = subst (λ (v : RateCoreView). Stands v (λ plain. Unit {0})) at (stands core counts fits);
      may = λ free. subst (λ (v : RateCoreView). Stands v (λ plain. may_call plain ≡ true)) at
          (free_may core counts fits (ap (λ (n : ℕ). nat_eq n core.num) (sym c.len.ensures.len) ∙ free));
    }
