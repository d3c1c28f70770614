-- Laws of one turn of the check, and of its loop.
pub mod Turning
pub mod Passing
