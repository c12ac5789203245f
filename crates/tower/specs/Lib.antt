pub mod Projections
pub mod Refusal
pub mod RefusalKinds
pub mod WaitRuns
pub mod WaitRunsLemmas
pub mod Waits
