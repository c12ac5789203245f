-- Runs without calls, one after the other.
use Rattle.std.proofs.Common.{◌≡◌, ap, ◌∙◌, [], ◌++◌}
use Rattle.tower_base.specs.ServiceRun.{Relations, requests}
use Rattle.tower_base.specs.Projection.{RunInside}
use Rattle.tower_base.specs.ProjectionLemmas.{joined, requests_joined}

module _ {S Q E F : Type 0} (s : Relations S Q E F) where
  pub after : (old mid new : S) → RunInside s (λ x. x ≡ []) old mid → RunInside s (λ x. x ≡ []) mid new → RunInside s (λ x. x ≡ []) old new
  after old mid new first second = record {
    transitions = first.transitions ++ second.transitions;
    run = joined s old mid new first.transitions second.transitions first.run second.run;
    has = requests_joined s first.transitions second.transitions ∙ (ap (λ x. x ++ requests second.transitions) first.has ∙ second.has);
  }
