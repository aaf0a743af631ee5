-- The laws that the proofs of this crate cite, by subject.
pub mod TargetLaws
pub mod DistanceLaws
