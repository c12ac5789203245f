use Rattle.tower_laws.proofs.HedgeLemmas.{hedges_once}
use Rattle.tower_retry.specs.Hedge.{Checked}
use Rattle.tower_retry.specs.HedgeCheck.{CheckStepped}
use Rattle.tower_laws.proofs.hedge.law.Goals as goal

pub returns : goal.returns
returns g c = hedges_once _ g.S.Service g.S.Future.Steps.stepped g.P.Policy g.P.Clone.is_clone g.S.Clone.is_clone g.L.Latch.gave g.C.Clock
    {u = record { sound = λ policy. Unit {0}; checked = Checked g.P.Policy }}
    {check = record { can_poll = λ state. Unit {0}; needs = λ state source. ⊥; stepped = CheckStepped; stirs = λ old new. Unit {0} }} (record {
      rec_polled = λ old answer new h. h.polled;
      rec_called = λ old request future new h. (h.ready, h.called);
      rec_stepped = λ old answer new h. h.stepped;
      rec_cloned = λ old new h. h.service;
      check_made = λ old request future new h. h;
      checked = λ old answer new h. h;
      fil_polled = λ old answer new h. h;
      fil_called = λ old request future new h. h;
      fil_steps = λ old answer new h. h;
      fil_cloned = λ old new h. h;
      delayed = λ old request delay new h. h;
      copied = λ old request copy new h. h;
    }) _ _ (λ old request future new h. h) (λ old answer new h. h) _ (λ old answer new h. h)
