-- Words about a state that passes its check: a verdict that is known, and what a close may answer.
pub mod Known
pub mod Closing
