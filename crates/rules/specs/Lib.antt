-- The rule file, described once, and what reading and writing one answer and leave.
pub mod RuleFile
pub mod Read
pub mod Head
pub mod Write
