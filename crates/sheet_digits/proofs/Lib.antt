-- Theorems over the definitions of this crate.
pub mod Exact
pub mod OffsetLaws
