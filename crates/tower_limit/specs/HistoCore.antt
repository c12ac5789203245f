-- Which plain histograms a `HistoCore` stands for.
use Rattle.std.specs.Prelude.{◌≡◌, ◌<◌, ℕ, zero, suc, ◌+◌, ◌≢◌, nat_eq, if◌then◌else◌, List, [], ◌∷◌}
use Rattle.std.specs.Option.{unwrap_or}
use Rattle.std.specs.Ordering.{nat_cmp}
use Rattle.std.specs.BTreeMap.{get}
use Rattle.tower_limit.specs.Histogram.{Histogram, initial, read_at, times, most}
use Rattle.tower_limit.specs.declared.hedge.rotating_histogram.histo_core.HistoCore.{HistoCore}
use Rattle.tower_limit.specs.declared.hedge.rotating_histogram.steps.HistoReply.{HistoReply}
use Rattle.tower_limit.specs.declared.hedge.rotating_histogram.steps.HistoReply.TheVariants.{Done, Memory, Full}
use Rattle.tower_limit.specs.declared.hedge.rotating_histogram.tally.Tally.{Tally}

-- how often a tally has a number
abbrev pub tallied : Tally → ℕ → ℕ
tallied tally v = unwrap_or (get nat_cmp tally.counts v) 0

-- the number k this many times, and then these
abbrev pub repeated : ℕ → ℕ → List ℕ → List ℕ
repeated zero k more = more
repeated (suc n) k more = k ∷ repeated n k more

-- the numbers of a tally's entries, ascending
abbrev pub flat : List (ℕ × ℕ) → List ℕ
flat [] = []
flat (e ∷ rest) = repeated e.1 e.0 (flat rest)

-- After `Done` one more number is tallied. After any other reply nothing changes. `Memory` comes only for a number that wasn't tallied before.
abbrev pub Adds : Tally → ℕ → HistoReply → Tally → Type 0
Adds old millis Done new = (old.total < most) × ((v : ℕ) → tallied new v ≡ (if nat_eq millis v then 1 else 0) + tallied old v)
Adds old millis Memory new = (old.total < most) × ((v : ℕ) → tallied new v ≡ tallied old v) × (tallied old millis ≡ 0)
Adds old millis Full new = (old.total ≡ most) × ((v : ℕ) → tallied new v ≡ tallied old v)
Adds old millis reply new = ⊥

-- The first tally has each number as often as the points that are read in the present period, and the second one as often as those of the next
-- period. There are no later points.
pub record Stands (moment duration number : ℕ) (first second : Tally) (h : Histogram) : Type 0 where
  pub made : h.made ≡ moment
  pub period : h.period ≡ duration
  pub present : h.present ≡ number
  pub read : (v : ℕ) → times v (read_at number h.points) ≡ tallied first v
  pub written : (v : ℕ) → times v (read_at (number + 1) h.points) ≡ tallied second v
  pub latest : (later : ℕ) → number + 1 < later → read_at later h.points ≡ []

abbrev pub StandsFor : HistoCore → Histogram → Type 0
StandsFor core h = Stands core.made core.period core.present core.read core.written h

-- a new core: for some moment and some positive period
abbrev pub Opens : HistoCore → Type 0
Opens core = (moment : ℕ) × (period : ℕ) × (period ≢ 0) × StandsFor core (initial moment period)

-- If the old core stands for a histogram, the new one stands for that histogram changed in this way.
abbrev pub Changes : (Histogram → Histogram) → HistoCore → HistoCore → Type 0
Changes change old new = (h : Histogram) → StandsFor old h → StandsFor new (change h)
