-- The rule language and its progression: what a reader has to believe, apart from the formats.
pub mod Formula
pub mod Meaning
pub mod Progression
pub mod Decode
