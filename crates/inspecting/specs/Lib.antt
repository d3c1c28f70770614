-- What the contracts of `inspecting` cite.
pub mod Looked
