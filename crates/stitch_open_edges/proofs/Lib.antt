-- The laws that the proofs of this crate cite, by subject.
pub mod FlagLaws
pub mod OpenStages
pub mod OpenLaws
