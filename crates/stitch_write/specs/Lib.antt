-- What is written to the second slices, and how long it is.
pub mod Tables
pub mod Lengths
pub mod KeptVertices
pub mod BodyLengths
pub mod Writing
pub mod ByFinder
