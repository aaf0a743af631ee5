-- Theorems over the definitions of this crate.
pub mod Found
pub mod Groups
pub mod Uses
