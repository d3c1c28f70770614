-- A run of events by the calls one at a time: what a reader has to believe of a tick and of a run.
pub mod Given
pub mod Ticked
pub mod Order
pub mod Course
pub mod Stops
pub mod Resumed
