-- The definitions of this crate and the laws that other crates cite, by subject.
pub mod Told
pub mod Texts
pub mod Cases
pub mod Zeros
