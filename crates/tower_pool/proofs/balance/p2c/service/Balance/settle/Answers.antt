use Rattle.std.proofs.Common.{rules, inl, inr, ⊎_elim, sym, ◌∙◌}
use Rattle.tower_pool.specs.Balance.{view_of}
use Rattle.tower_pool.proofs.BalanceLemmas.{settling_begins, settling_ends, settling_goes, settling_less}
use Rattle.tower_pool.proofs.StirsLemmas.{no_answer, quiet_then}
use Rattle.tower_pool.proofs.balance.p2c.service.Balance.settle.Goals as goal

pub loop-answer-init : goal.loop-answer-init
loop-answer-init g c = record {
  settling = settling_begins g.row.X.Denot g.K.PartialEq.eq g.S.Service g.S.Load.loaded g.S.Metric.PartialOrd.partial_cmp g.R.Rng.drew (view_of c.args.self.now);
  sound = search rules;
  heard = λ h. h;
  discover = search rules;
  over = search rules;
  reads = c.requires.reads;
  waits = c.requires.waits;
  quiet = inl;
  kept = search rules;
}

pub returns-in-Some-clause-chosen : goal.returns-in-Some-clause-chosen
returns-in-Some-clause-chosen g c =
    settling_ends g.row.X.Denot g.K.PartialEq.eq g.S.Service g.S.Load.loaded g.S.Metric.PartialOrd.partial_cmp g.R.Rng.drew (view_of c.args.self.now) (view_of c.loop-answer.self) c.in-Some.answer (view_of c.iterate_once.new.self)
    (rw c.in-Some.is at c.iterate_once.ensures.iteration) c.loop-answer.invariant.settling

pub loop-answer-preserved : goal.loop-answer-preserved
loop-answer-preserved g c = record {
  settling = settling_goes g.row.X.Denot g.K.PartialEq.eq g.S.Service g.S.Load.loaded g.S.Metric.PartialOrd.partial_cmp g.R.Rng.drew (view_of c.args.self.now) (view_of c.loop-answer.self) (view_of c.iterate_once.new.self)
      (rw c.in_default.is at c.iterate_once.ensures.iteration) c.loop-answer.invariant.settling;
  sound = search rules;
  heard = λ h. c.iterate_once.ensures.heard (c.loop-answer.invariant.heard h);
  discover = search rules;
  over = search rules;
  reads = λ e. c.iterate_once.ensures.kept _ (c.loop-answer.invariant.reads (sym c.iterate_once.ensures.over ∙ e));
  waits = c.iterate_once.ensures.waits;
  quiet = quiet_then (λ h. h) (⊎_elim (λ h. h) (λ i. absurd (no_answer _ c.in_default.is i.0))) c.loop-answer.invariant.quiet c.iterate_once.ensures.quiet;
  kept = search rules;
}

pub loop-answer-smaller : goal.loop-answer-smaller
loop-answer-smaller g c =
    settling_less g.row.X.Denot g.K.PartialEq.eq g.S.Service g.S.Load.loaded g.S.Metric.PartialOrd.partial_cmp g.R.Rng.drew (view_of c.loop-answer.self) (view_of c.iterate_once.new.self) (rw c.in_default.is at c.iterate_once.ensures.iteration)

pub returns-in-Some-clause-quiet : goal.returns-in-Some-clause-quiet
returns-in-Some-clause-quiet g c = quiet_then inl (⊎_elim inl (λ i. inr i.1)) c.loop-answer.invariant.quiet c.iterate_once.ensures.quiet
