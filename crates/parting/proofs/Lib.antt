-- Laws about parts of nodes, their choices and their tops.
pub mod Standing
pub mod Choosing
pub mod Topping
pub mod Putting
pub mod Nodes
pub mod Sizes
