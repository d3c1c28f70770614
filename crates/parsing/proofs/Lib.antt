-- The laws of `parse`.
pub mod Parts
pub mod Outcomes
pub mod Determined
