-- What the contracts of `slot_sets` cite.
pub mod SlotSets
