-- A gap and then a sign.
pub mod Following
