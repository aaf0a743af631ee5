-- Theorems over the definitions of this crate.
pub mod UseLaws
pub mod AreaLaws
