-- The laws that the proofs of this crate cite, by subject.
pub mod LimitLaws
pub mod OpenLaws
pub mod CloseLaws
