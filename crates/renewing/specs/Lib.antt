-- What the contracts of `renewing` cite.
pub mod Renew
