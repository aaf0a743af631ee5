-- The laws that the proofs of this crate cite, by subject.
pub mod Normals
pub mod AcceptedLaws
