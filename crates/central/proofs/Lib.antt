-- Laws of central progression over bytes.
pub mod Progresses
pub mod Outcomes
pub mod Foldings
pub mod Determined
