-- The laws that the proofs of this crate cite, by subject.
pub mod WordLaws
pub mod PointLaws
pub mod LeafLaws
pub mod NodeLaws
pub mod OrderLaws
pub mod TreeLaws
