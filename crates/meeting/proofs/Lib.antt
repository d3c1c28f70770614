-- Laws of meeting a register's entries.
pub mod Among
pub mod Entering
pub mod Walking
