-- The laws that the proofs of this crate cite, by subject.
pub mod Loops
pub mod Rules
pub mod Parts
