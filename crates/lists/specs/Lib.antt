-- What the definitions ask of a list, and laws of it.
pub mod Lists
pub mod Any
pub mod Each
pub mod Sets
pub mod Stretches
pub mod Copied
pub mod Chunks
pub mod Table
pub mod Evaluation
pub mod Both
pub mod Members
pub mod Rising
