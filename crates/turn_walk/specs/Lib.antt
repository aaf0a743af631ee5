-- The definitions of this crate and the laws that other crates cite, by subject.
pub mod Walk
pub mod Uses
pub mod Area
pub mod Chains
pub mod Group
pub mod Frames
pub mod Steps
pub mod Links
pub mod Kept
pub mod Visited
pub mod Evaluation
pub mod Claims
pub mod Found
