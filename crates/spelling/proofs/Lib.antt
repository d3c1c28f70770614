-- Laws of boards as they are typed and shown.
pub mod Spelled
pub mod Readings
pub mod Counting
pub mod Showing
