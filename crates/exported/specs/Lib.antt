-- What the contracts of the exported functions cite.
pub mod Exported
