-- What is proved of reports.
pub mod Sums
pub mod Each
pub mod Those
pub mod Figures
pub mod Adding
pub mod Order
pub mod Known
pub mod Chosen
pub mod Spans
pub mod Filled
pub mod Agrees
pub mod ReadBack
pub mod RunBytes
pub mod Agreeing
pub mod OneRule
pub mod SomeList
pub mod Worked
