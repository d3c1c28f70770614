-- Laws about tokens and a register that is kept in them.
pub mod Stamps
pub mod Lines
pub mod Keeping
