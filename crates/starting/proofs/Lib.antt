-- Laws of a rule's layout, and of the first state.
pub mod Rules
pub mod Firsts
