-- A turned body in the flat slices.
pub mod Reversed
