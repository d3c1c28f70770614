-- What the contracts of `capturing` cite.
pub mod Capture
pub mod Running
