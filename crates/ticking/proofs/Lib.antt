-- Laws of a tick: what it is lent, one law for each way out, and that the promise leaves no choice.
pub mod Lending
pub mod Outcomes
pub mod Determined
