-- Laws about laying a slot in tokens.
pub mod Rows
pub mod Between
pub mod Looking
pub mod Stages
pub mod Slots
pub mod Loops
pub mod Measures
pub mod Turning
