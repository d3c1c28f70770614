-- What the calls of a watch keep, and the claims about a watch.
pub mod Bits
pub mod Formulas
pub mod Networks
pub mod Resampled
pub mod InTick
pub mod Single
pub mod Started
pub mod Ticked
pub mod Telling
pub mod Agreeing
pub mod GoingOn
pub mod Events
pub mod Existing
pub mod Asking
pub mod Demand
pub mod Worked
