-- Laws of the rule language, and the soundness of progression.
pub mod Equal
pub mod Decoding
pub mod Owing
pub mod Joining
pub mod Verdicts
pub mod Soundness
pub mod Lengths
