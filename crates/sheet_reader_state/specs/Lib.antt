-- The definitions of this crate and the laws that other crates cite, by subject.
pub mod Slices
pub mod Limits
pub mod Held
pub mod Same
pub mod Kept
