-- Laws of lists that say nothing of rules.
pub mod Tests
pub mod Listed
pub mod Overlay
pub mod Drops
pub mod Parts
pub mod Splices
pub mod Stretches
