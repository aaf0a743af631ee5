-- The laws that the proofs of this crate cite, by subject.
pub mod TableLaws
pub mod TriangleWriteLaws
pub mod RowWriteLaws
pub mod BodyWriteLaws
