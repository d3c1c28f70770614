-- Laws of loading, and that its promise leaves no choice.
pub mod Foldings
pub mod Outcomes
pub mod Determined
