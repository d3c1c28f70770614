-- Laws of the forms and places of a state, of what is written into it, what a state that was written reads back as, and what a sample
-- and a step change in its fields.
pub mod Forms
pub mod Places
pub mod Putting
pub mod Ends
pub mod Columns
pub mod Fronts
pub mod Numbers
pub mod SlotRows
pub mod BoardRows
pub mod Parts
pub mod Listed
pub mod Reading
pub mod Fresh
pub mod Puts
pub mod Stretches
pub mod Framed
pub mod SameSlots
pub mod Sampled
pub mod Stepped
pub mod Stepping
