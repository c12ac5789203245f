pub mod Calls
pub mod Client
