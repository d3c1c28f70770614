-- What the contracts of `meeting` cite.
pub mod Links
pub mod Meeting
