-- The third demand for the calls from C: a watch by the exported functions' promises, and what is claimed of it.
pub mod FromC
pub mod Demanded
pub mod Capturing
