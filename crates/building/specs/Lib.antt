-- What the contracts of `building` cite: how many nodes a text has, and, for the pass, what its state stands for.
pub mod Nodes
pub mod Takes
