-- What the contracts above `checked` cite of a state that passes.
pub mod Holds
