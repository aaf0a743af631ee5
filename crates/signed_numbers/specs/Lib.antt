-- The definitions of this crate and the laws that other crates cite, by subject.
pub mod Range
pub mod Linear
pub mod Bits
