pub mod Fault
pub mod Script
pub mod Scripted
pub mod Storm
pub mod Words
