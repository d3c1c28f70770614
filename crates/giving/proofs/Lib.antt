-- Laws of calls made one after the other, what they keep of the state, and that the promise leaves no choice.
pub mod Kept
pub mod Following
pub mod Lone
pub mod Determined
