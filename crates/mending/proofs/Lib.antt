-- What is proved of mending.
pub mod Outcomes
pub mod Determined
