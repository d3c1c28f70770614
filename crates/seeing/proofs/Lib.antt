-- Laws of what a slot sees: what the slots that it holds are told as, and the pass over its bytes.
pub mod Telling
pub mod Sights
