-- The answer of this crate as a value of the code.
pub mod Answers
