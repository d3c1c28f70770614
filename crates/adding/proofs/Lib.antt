-- Laws of the call.
pub mod Looking
pub mod Summing
pub mod Outcomes
pub mod Determined
pub mod Lists
