-- What finding, placing and splitting a triangle ask and leave.
pub mod Finding
pub mod Triangle
pub mod ByFinder
