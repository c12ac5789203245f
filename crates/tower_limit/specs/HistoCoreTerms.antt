-- No step of a histogram's core changes its period.
use Rattle.std.proofs.Common.{◌≡◌, ◌+◌, ℕ, ap, sym, ◌∙◌}
use Rattle.tower_latch.specs.Latch.{StepsAs}
use Rattle.tower_limit.specs.Histogram.{Histogram, Takes, Steps, rotated}
use Rattle.tower_limit.specs.HistoCore.{StandsFor}
use Rattle.tower_limit.specs.declared.hedge.rotating_histogram.histo_core.HistoCore.{HistoCore}
use Rattle.tower_limit.specs.declared.hedge.rotating_histogram.steps.HistoStep.{HistoStep}
use Rattle.tower_limit.specs.declared.hedge.rotating_histogram.steps.HistoStep.TheVariants.{Record, Seed, Points, Quantile}
use Rattle.tower_limit.specs.declared.hedge.rotating_histogram.steps.HistoReply.{HistoReply}
use Rattle.tower_limit.specs.declared.hedge.rotating_histogram.steps.HistoReply.TheVariants.{Done, Memory, Full, Count, Millis}

taken : (old : Histogram) (period millis : ℕ) (reply : HistoReply) (new : Histogram) → Takes old period millis reply new → new.period ≡ old.period
taken old period millis Done new t = ap (λ (h : Histogram). h.period) t.1
taken old period millis Memory new t = ap (λ (h : Histogram). h.period) t.1
taken old period millis Full new t = ap (λ (h : Histogram). h.period) t.1
taken old period millis (Count n) new t = elim t [ ]
taken old period millis (Millis n) new t = elim t [ ]

stepped : (old : Histogram) (step : HistoStep) (reply : HistoReply) (new : Histogram) → Steps old step reply new → new.period ≡ old.period
stepped old (Record moment millis) reply new s = taken (rotated old moment) ((rotated old moment).present + 1) millis reply new s
stepped old (Seed moment millis) reply new s = taken (rotated old moment) (rotated old moment).present millis reply new s
stepped old (Points moment) (Count n) new s = ap (λ (h : Histogram). h.period) s.1
stepped old (Quantile moment part) (Millis n) new s = ap (λ (h : Histogram). h.period) s.1
stepped old (Points moment) Done new s = elim s [ ]
stepped old (Points moment) Memory new s = elim s [ ]
stepped old (Points moment) Full new s = elim s [ ]
stepped old (Points moment) (Millis n) new s = elim s [ ]
stepped old (Quantile moment part) Done new s = elim s [ ]
stepped old (Quantile moment part) Memory new s = elim s [ ]
stepped old (Quantile moment part) Full new s = elim s [ ]
stepped old (Quantile moment part) (Count n) new s = elim s [ ]

pub keeps_period : (old : HistoCore) (step : HistoStep) (reply : HistoReply) (new : HistoCore) → StepsAs StandsFor Steps old step reply new → new.period ≡ old.period
keeps_period old step reply new (stood, follows) =
    let next = follows stood.0 stood.1 in
    sym next.2.period ∙ stepped stood.0 step reply next.0 next.1 ∙ stood.1.period
