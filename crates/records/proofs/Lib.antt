-- Laws of tests of every number and of every byte, of the clauses on bytes, and of what a state that passes and was opened is known to be.
pub mod Each
pub mod Stretched
pub mod Passed
pub mod Opened
