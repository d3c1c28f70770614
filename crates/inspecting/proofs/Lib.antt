-- What is proved of inspecting.
pub mod Fits
pub mod Looking
pub mod Checks
pub mod Inspects
