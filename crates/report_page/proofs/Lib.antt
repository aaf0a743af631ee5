-- The laws that the proofs of this crate cite, by subject.
pub mod ShareLaws
pub mod PageLaws
pub mod CountLaws
