-- Laws of sets of slots.
pub mod Bits
pub mod SlotSets
