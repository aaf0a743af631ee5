-- The definition of assembling, its answer as an enum, the definitions computed, and claims about small bodies.
pub mod Assemble
pub mod Assembled
pub mod Evaluation
pub mod Claims
