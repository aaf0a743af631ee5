-- The definitions of this crate, by subject.
pub mod Turn
