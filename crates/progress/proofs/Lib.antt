-- Laws of the verdict before any event.
pub mod Verdicts
pub mod Firsts
