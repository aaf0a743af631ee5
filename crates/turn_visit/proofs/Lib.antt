-- The laws that the proofs of this crate cite, by subject.
pub mod Visiting
pub mod Walking
