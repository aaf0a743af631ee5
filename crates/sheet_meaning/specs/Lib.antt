-- The definitions of this crate and the laws that other crates cite, by subject.
pub mod Meaning
pub mod Printing
pub mod Parts
pub mod Bench
pub mod Answered
pub mod Evaluation
pub mod Claims
