pub mod BalanceRuns
pub mod SpawnReadyRuns
pub mod WaitRates
pub mod WaitsLemmas
pub mod WorkerRuns
