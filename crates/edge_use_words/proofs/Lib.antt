-- The laws that the proofs of this crate cite, by subject.
pub mod WordLaws
pub mod RowLaws
