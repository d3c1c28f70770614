-- Laws of printing.
pub mod Texts
pub mod Outcomes
pub mod Told
pub mod Determined
