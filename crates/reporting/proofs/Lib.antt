-- Laws of the call.
pub mod Outcomes
pub mod Determined
pub mod Told
