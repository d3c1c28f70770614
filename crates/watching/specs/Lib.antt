-- A watch on the state's bytes: what a reader has to believe of calls, ticks and watches.
pub mod Watch
pub mod Claims
