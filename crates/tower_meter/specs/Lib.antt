pub mod Buckets
pub mod Laws
pub mod MeterCore
pub mod Metered
pub mod MeteredLends
pub mod Tally
pub mod Traced
pub mod TracedLends
