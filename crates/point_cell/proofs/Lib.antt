-- The laws that the proofs of this crate cite, by subject.
pub mod Rounding
pub mod Fields
pub mod Signs
pub mod Words
pub mod Clamping
