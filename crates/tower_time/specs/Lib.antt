pub mod Clocks
pub mod Firing
pub mod TimerSource
