-- Theorems over the definitions of this crate.
pub mod Insertions
pub mod LooseLaws
