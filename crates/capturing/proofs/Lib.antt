-- Laws of the call: how far a run has come, its ways out, and that its promise leaves no choice.
pub mod Turns
pub mod Outcomes
pub mod Determined
