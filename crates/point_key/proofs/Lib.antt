-- The laws that the proofs of this crate cite, by subject.
pub mod Steps
pub mod Positions
