-- The definitions of this crate and the theorems over them, by subject.
pub mod Places
pub mod Grammar
pub mod Lines
pub mod Reading
pub mod Writing
pub mod Answers
pub mod ListLaws
pub mod Words
pub mod LineLaws
pub mod TextLaws
pub mod Steps
pub mod Evaluation
pub mod Claims
pub mod Accepted
pub mod ReadBack
pub mod RoundTrip
