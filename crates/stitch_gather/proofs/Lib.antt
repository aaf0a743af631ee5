-- The laws that the proofs of this crate cite, by subject.
pub mod InsertLaws
pub mod StandLaws
pub mod ListLaws
pub mod GatherLaws
pub mod SortLaws
