-- Laws of folding.
pub mod Cases
pub mod Lengths
pub mod Constants
pub mod Meaning
pub mod Again
pub mod Later
pub mod Told
