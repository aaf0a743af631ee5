-- The definitions of this crate and the laws that other crates cite, by subject.
pub mod Bytes
pub mod Digits
pub mod ReadBack
pub mod Lengths
pub mod Offsets
pub mod Next
pub mod Evaluation
pub mod Claims
pub mod Exact
pub mod OffsetLaws
