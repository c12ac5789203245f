pub mod FullCount
