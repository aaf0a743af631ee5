-- The definitions of this crate and the laws that other crates cite, by subject.
pub mod Limits
pub mod Reading
pub mod Refusals
pub mod Laws
pub mod Evaluation
pub mod Samples
pub mod Claims
