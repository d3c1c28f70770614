-- What the contracts of `outlining`, and of what reads or writes an outline, cite.
pub mod Outlined
