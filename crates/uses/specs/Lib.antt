pub mod Permits
pub mod Seats
