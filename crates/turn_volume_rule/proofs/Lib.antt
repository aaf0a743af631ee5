-- Theorems over the definitions of this crate.
pub mod Bound
pub mod Outward
pub mod Rule
