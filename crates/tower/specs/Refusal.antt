-- What the error of a stack says, in the words of `tower_refusal`.
pub use Rattle.tower_refusal.specs.Cause.{own, cause_copied, refusal_of, error_of}
