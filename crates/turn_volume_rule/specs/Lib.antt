-- The definitions of this crate and the laws that other crates cite, by subject.
pub mod Exact
pub mod VolumeRule
pub mod Evaluation
pub mod Claims
pub mod Premise
pub mod Ints
pub mod Det
pub mod Sums
pub mod Sign
pub mod Accepted
pub mod Pairs
pub mod Walks
pub mod Groups
pub mod Output
pub mod Covered
pub mod Outward
pub mod Rule
