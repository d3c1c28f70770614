-- Laws of the call `sample`: its outcomes.
pub mod Outcomes
