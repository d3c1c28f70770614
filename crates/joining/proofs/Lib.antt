-- Laws of joining.
pub mod Standing
pub mod Spines
pub mod Chains
pub mod Joinings
