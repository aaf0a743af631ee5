-- The laws that the proofs of this crate cite, by subject.
pub mod PlacingLaws
pub mod NodeLaws
pub mod SearchLaws
pub mod TreeLaws
pub mod TriangleLaws
