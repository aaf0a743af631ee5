-- The definitions of this crate and the laws that other crates cite, by subject.
pub mod Forms
pub mod Counted
pub mod Pattern
pub mod Scan
pub mod ReadBack
pub mod Lengths
pub mod Printed
pub mod Exact
pub mod Evaluation
