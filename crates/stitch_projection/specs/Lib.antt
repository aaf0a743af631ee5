-- The definitions of projection and mixed normals, claims about them, and the definitions computed.
pub mod Projection
pub mod Evaluation
pub mod Claims
