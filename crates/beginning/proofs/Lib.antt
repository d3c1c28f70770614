-- Laws of a rule's layout by what was counted, and of what `begin` answers.
pub mod Layouts
pub mod Outcomes
