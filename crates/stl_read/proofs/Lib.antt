-- The laws that the proofs of this crate cite.
pub mod CornerLaws
pub mod SliceLaws
pub mod ReadLaws
