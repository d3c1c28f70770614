-- What the contracts of `tables` cite.
pub mod Cells
pub mod Average
pub mod Pages
