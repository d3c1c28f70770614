-- Laws of results at the end of some bytes.
pub mod Firsts
pub mod Stacks
