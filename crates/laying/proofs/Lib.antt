-- Laws of laying over plain lists.
pub mod Places
pub mod Sizes
pub mod Appending
pub mod Writing
pub mod Sources
pub mod Boarding
pub mod Asking
pub mod Parts
pub mod Slots
pub mod Room
pub mod Cutting
pub mod Rooting
pub mod Counting
pub mod Relays
pub mod Totals
