-- Laws of the pass over a formula's bytes.
pub mod Scans
