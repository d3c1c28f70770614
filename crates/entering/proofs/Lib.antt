-- Laws about comparing tokens and entering slots.
pub mod Telling
pub mod Outers
pub mod Registers
pub mod Finding
pub mod Outcomes
