-- The definitions of a split triangle's ring, new vertices and fan, what they add to the slices, the definitions computed, and claims about small rings.
pub mod Rings
pub mod Added
pub mod FanLaws
pub mod Evaluation
pub mod Claims
