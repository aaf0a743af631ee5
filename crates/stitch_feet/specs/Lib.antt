-- A footing by definition, the answers as values of the code, and the hit at a footing.
pub mod Answers
pub mod Hits
