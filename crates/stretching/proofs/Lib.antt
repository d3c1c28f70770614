-- What is proved of stretching.
pub mod Gathering
pub mod Outcomes
pub mod Determined
pub mod Mended
