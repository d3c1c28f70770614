-- What the contracts of `spelling` cite.
pub mod Typed
pub mod Reading
pub mod Shown
pub mod Count
