-- Laws of answers and refusals, for every call.
pub mod Answers
