-- The laws that the proofs of this crate cite, by subject.
pub mod SizeLaws
pub mod BelowLaws
pub mod MeshLaws
