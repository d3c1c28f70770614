-- Small definitions that say nothing of rules: tests, runs of numbers, and the values of a function.
pub mod Tests
pub mod Runs
pub mod Listed
