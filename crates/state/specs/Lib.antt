-- The state buffer: its forms and fields, described once; the state check, clause by clause; a state from a network and a network
-- from a state; what is written within a tick; and what the calls on a state answer and leave.
pub mod Form
pub mod Fields
pub mod Clauses
pub mod Bytes
pub mod Writes
pub mod Counted
pub mod Opened
pub mod Calls
