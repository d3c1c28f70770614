-- Laws of the call `step`: what is written, and its outcomes.
pub mod Rewriting
pub mod Outcomes
