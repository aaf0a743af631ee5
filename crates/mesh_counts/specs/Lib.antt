-- The counts of a mesh and when it is closed, the definitions computed, and claims about small meshes.
pub mod Counts
pub mod Evaluation
pub mod Claims
