-- The lookup of the bins nearest a peg: its definition, its theorem, and claims.
pub mod Peg
pub mod Answers
pub mod Nearest
pub mod PlaceLaws
pub mod Evaluation
pub mod Claims
