-- What a tick answers, check by check, what it closes to, and how a run of events stops.
pub mod Following
pub mod Frames
pub mod Boards
pub mod Slots
pub mod Given
pub mod InOrder
pub mod Closing
pub mod Numbers
pub mod Coursing
pub mod Stops
pub mod Splitting
pub mod Worked
