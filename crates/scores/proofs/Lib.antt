-- Laws of scores that belong to no one function.
pub mod Tests
pub mod Added
pub mod Alone
pub mod Highest
pub mod Padding
pub mod Counting
pub mod Clearing
pub mod Assigned
