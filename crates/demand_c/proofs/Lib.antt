-- From the exported functions' promises to the calls' own, and so the third demand for the calls from C.
pub mod Same
pub mod Watches
pub mod Back
pub mod Demand
pub mod Sentences
pub mod Captured
pub mod CapturedSplit
pub mod Recorded
