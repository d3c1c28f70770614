-- Laws of the tests whether a watch is finished.
pub mod Going
