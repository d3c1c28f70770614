-- What a sample and a step keep of a state that passes its check, and which calls such a state accepts.
pub mod Refused
pub mod Parts
pub mod Slots
pub mod Once
pub mod Constants
pub mod Formulas
pub mod Sampling
pub mod Stepping
pub mod StepPasses
pub mod Finished
pub mod Calls
pub mod Kept
