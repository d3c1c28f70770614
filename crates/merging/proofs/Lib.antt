-- Laws about trees of slots and the merged network.
pub mod Worked
pub mod Same
pub mod Among
pub mod Valued
pub mod Merging
pub mod Bridge
pub mod Interned
pub mod Visiting
pub mod Chains
pub mod Counted
