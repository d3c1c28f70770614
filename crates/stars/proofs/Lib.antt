-- The worked values.
pub mod Progressions
pub mod Layouts
pub mod States
pub mod Split
pub mod Surviving
pub mod Renumbered
pub mod Kept
pub mod Unsplit
pub mod Stars
