-- Laws of the call: its outcomes, and that its promise leaves no choice.
pub mod Ready
pub mod Outcomes
pub mod Determined
