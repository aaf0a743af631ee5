-- The laws that the proofs of this crate cite, by subject.
pub mod SqrtBits
pub mod Digits
pub mod Guess
