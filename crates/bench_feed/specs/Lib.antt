-- The definitions of this crate and the laws that other crates cite, by subject.
pub mod Feeding
pub mod FeedingLaws
pub mod FailedRead
