-- What a state that passes its check is, what a step writes, and that loading and closing give such states.
pub mod Checked
pub mod Passing
pub mod Held
pub mod Bytes
pub mod Lying
pub mod Stepping
pub mod Fitting
pub mod Holders
pub mod Tidy
pub mod Written
pub mod Loaded
pub mod Closed
