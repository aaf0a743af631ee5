-- Two programs on one text: what it takes that they print the same, and that they do.
pub mod Within
pub mod Answers
pub mod Fronts
pub mod Zeros
pub mod Bodies
pub mod Reading
pub mod Assembling
pub mod Stitching
pub mod Finishing
pub mod Agreement
pub mod Smaller
