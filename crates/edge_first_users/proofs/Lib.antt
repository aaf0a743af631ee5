-- The laws that the proofs of this crate cite, by subject.
pub mod BodyLaws
pub mod UserLaws
pub mod ListLaws
