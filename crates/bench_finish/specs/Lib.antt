-- The definitions of this crate and the laws that other crates cite, by subject.
pub mod Answer
pub mod Fronts
pub mod Printed
pub mod Whole
