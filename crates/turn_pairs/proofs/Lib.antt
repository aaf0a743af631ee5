-- The laws that the proofs of this crate cite, by subject.
pub mod ShellLaws
pub mod StageLaws
pub mod LaidLaws
