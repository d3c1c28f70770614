-- Constants folded: what a reader has to believe of it.
pub mod Folding
