-- Theorems over the definitions of this crate.
pub mod Accepted
pub mod ReadBack
pub mod RoundTrip
