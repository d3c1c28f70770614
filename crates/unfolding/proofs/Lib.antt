-- Laws of unfolding over plain lists.
pub mod Fronts
pub mod Outlinings
pub mod Moves
pub mod Stacks
pub mod Nodes
pub mod Tops
pub mod Goings
pub mod Puts
