-- The definitions of this crate and the laws that other crates cite, by subject.
pub mod Finish
pub mod Parts
pub mod Evaluation
