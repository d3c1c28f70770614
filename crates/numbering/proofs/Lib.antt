-- Laws of an order and of the numbers in it.
pub mod Placing
pub mod Surveys
pub mod Worked
