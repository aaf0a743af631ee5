-- The laws that the proofs of this crate cite, by subject.
pub mod RiseLaws
pub mod SplitLaws
pub mod SortLaws
