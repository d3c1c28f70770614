-- Laws of putting the next state.
pub mod Renewing
