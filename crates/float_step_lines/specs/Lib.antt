-- The definitions of a line, and how long a printed one is.
pub mod Lines
pub mod Lengths
