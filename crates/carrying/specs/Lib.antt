-- What the contracts of `carrying` cite.
pub mod Carries
