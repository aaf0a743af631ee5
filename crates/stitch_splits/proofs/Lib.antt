-- Theorems over the definitions of this crate.
pub mod FoundLaws
pub mod FoundPoints
pub mod Places
pub mod Sorted
pub mod SideCases
