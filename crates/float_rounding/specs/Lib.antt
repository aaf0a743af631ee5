-- The theory of rounding to a binary format.
pub mod Near
pub mod Add
pub mod Held
pub mod Mul
pub mod Approx
pub mod Tri
pub mod Sum
pub mod Whole
pub mod Pattern
pub mod Shift
pub mod Fields
