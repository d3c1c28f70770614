-- Laws of a tick that is closed.
pub mod Advancing
