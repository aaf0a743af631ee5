-- Theorems over the definitions of this crate.
pub mod Filled
