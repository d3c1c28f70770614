-- Laws that belong to no one function, and what the promises of `read` and `write` say together.
pub mod Files
pub mod Passed
pub mod ReadOutcomes
pub mod WriteOutcomes
pub mod Determined
pub mod RoundTrip
