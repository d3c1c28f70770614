-- That the promise of the call leaves no choice.
pub mod Determined
