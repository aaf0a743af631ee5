-- The laws that the proofs of this crate cite, by subject.
pub mod SmallLaws
pub mod RowLaws
pub mod BestLaws
pub mod NextLaws
pub mod ListLaws
