-- Laws of the cells, lines and pages of a report.
pub mod Averages
pub mod Rows
pub mod Columns
pub mod Worked
