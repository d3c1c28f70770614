-- What the contracts of `folding` cite.
pub mod Bare
pub mod Results
pub mod Folds
