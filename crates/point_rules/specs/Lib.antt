-- The definitions of this crate and the laws that other crates cite, by subject.
pub mod Halves
pub mod Rule
pub mod Names
pub mod Points
pub mod Bits
pub mod Zeros
pub mod Evaluation
pub mod Claims
pub mod Unclamped
