-- What the walks over tokens cite.
pub mod Tokens
pub mod Kept
pub mod Said
