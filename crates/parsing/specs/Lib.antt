-- What the contracts of `parsing` cite.
pub mod Parse
pub mod Building
