-- What the contracts of `reports` and of the crates above it cite.
pub mod Runs
pub mod Report
pub mod Rows
pub mod Bytes
pub mod Nights
pub mod Order
pub mod RunBytes
