-- Laws of marks, and of the loop that makes them.
pub mod Packing
pub mod Reading
pub mod Joint
pub mod Nodes
pub mod Made
pub mod Waits
pub mod Passes
