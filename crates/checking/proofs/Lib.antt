-- Laws of the clauses.
pub mod Allowing
pub mod Noting
pub mod Constants
pub mod Forming
pub mod Masked
pub mod Assembled
