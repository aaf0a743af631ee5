-- The definitions of this crate and the laws that other crates cite, by subject.
pub mod Steps
pub mod Answer
