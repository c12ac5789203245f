use Rattle.std.proofs.Common.{◌≡◌, ◌+◌, ℕ, refl, subst}
use Rattle.std.specs.Prelude.{if◌then◌else◌, nat_eq, slice_index_or}
use Rattle.tower_meter.proofs.Tallies.{adds_answer}
use Rattle.tower_meter.proofs.reading.Reading.answer.Goals as goal

pub returns : goal.returns
returns c =
    let kinds =
    subst (λ (p : ℕ). (place : ℕ) → slice_index_or c.add_one.new.numbers place 0 ≡ (if nat_eq p place then 1 else 0) + slice_index_or c.args.self.now.kinds place 0)
    c.min-place.ensures c.add_one.ensures.each in
    let buckets =
    subst (λ (p : ℕ). (place : ℕ) → slice_index_or c.add_one-2.new.numbers place 0 ≡ (if nat_eq p place then 1 else 0) + slice_index_or c.args.self.now.buckets place 0)
    c.bucket-bucket.ensures.bucket c.add_one-2.ensures.each in
    record {
      same = refl;
      adds = λ steps s. adds_answer _ _ _ steps s c.args.is_ok c.args.kind c.args.nanos c.one_if-one.result c.one_if-one.ensures.one c.requires refl refl refl refl refl
          refl kinds buckets refl refl refl refl;
    }
