-- What the check of a text promises, and what one turn of it does.
pub mod Recognises
