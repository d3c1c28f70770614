-- What the contracts of `pointing` cite.
pub mod Columns
pub mod Window
pub mod Points
