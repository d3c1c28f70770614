-- Rules as people type them: the grammar and the place of a refusal, which a reader has to believe; the print; and, for the code, the
-- machine that goes over a text from the left and what is gathered from the right.
pub mod Signs
pub mod Grammar
pub mod Places
pub mod Printing
pub mod Machine
pub mod Gathering
