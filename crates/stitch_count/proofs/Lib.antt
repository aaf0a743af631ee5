-- The laws that the proofs of this crate cite, by subject.
pub mod CountLaws
pub mod EmptyLaws
pub mod ClearLaws
pub mod RowCountLaws
pub mod BodyViewLaws
pub mod BodyCountLaws
pub mod OrderLaws
pub mod PrepareLaws
