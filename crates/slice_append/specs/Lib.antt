-- What is written behind what a slice holds: what the code asks and leaves, and laws of it.
pub mod Appended
pub mod Ready
