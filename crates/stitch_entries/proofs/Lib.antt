-- The laws that the proofs of this crate cite, by subject.
pub mod EntryLaws
pub mod AppendLaws
pub mod DropLaws
pub mod KeepLaws
