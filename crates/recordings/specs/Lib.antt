-- What the contracts of the crates above `recordings` cite.
pub mod Records
pub mod Mending
pub mod Recording
pub mod Kept
