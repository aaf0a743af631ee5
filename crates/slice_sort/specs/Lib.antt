-- What sorting asks and leaves.
pub mod Split
pub mod Sorting
