-- Laws of the call `ask`: its outcomes.
pub mod Outcomes
