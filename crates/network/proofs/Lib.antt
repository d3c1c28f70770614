-- The split network gives the verdict of one place.
pub mod Owned
pub mod Values
pub mod Laying
pub mod Holding
pub mod Layouts
pub mod Origins
pub mod Relaying
pub mod Numbers
pub mod Settling
pub mod Ticking
pub mod Watched
pub mod Choosing
pub mod RuleWatch
