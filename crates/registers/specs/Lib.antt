-- Slots told apart, over formulas: the words in which the code that lays out merged is promised.
pub mod Register
pub mod Relaying
pub mod Numbers
pub mod Outer
