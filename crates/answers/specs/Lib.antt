-- What the calls' promises say of their answers.
pub mod Said
