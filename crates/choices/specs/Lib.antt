-- What the contracts of `choices`, and of the walks that read its marks, cite.
pub mod Marks
pub mod Picked
pub mod Rows
pub mod Over
pub mod Waiting
