-- The definitions of this crate and the laws that other crates cite, by subject.
pub mod Answer
pub mod ReadBack
pub mod Longest
pub mod Evaluation
pub mod Claims
