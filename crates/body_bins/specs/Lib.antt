-- Bins: a column of a table covered, and that turning, stitching and assembling leave bins as they are and go by none; tables covered.
pub mod Covered
pub mod Turning
pub mod Stitching
pub mod Assembling
pub mod Claims
