-- Laws of the values behind references, and that the promises leave no choice.
pub mod Values
pub mod Determined
pub mod PrintedBack
pub mod Nights
pub mod Recordings
