-- What the contracts of `spreading` cite.
pub mod Spreads
