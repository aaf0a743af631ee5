-- The definitions of a patch's volume, reach and escape, the definitions computed, and claims about them.
pub mod Volume
pub mod Reach
pub mod Evaluation
pub mod Claims
