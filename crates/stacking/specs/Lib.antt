-- What the contracts of `stacking`, and of what works on the results above it, cite.
pub mod Stacks
