-- The definitions of the mesh, what the code asks and leaves, laws of both, and the definitions computed.
pub mod Mesh
pub mod JudgedRows
pub mod Written
pub mod Parts
pub mod Ranges
pub mod RowLaws
pub mod LaidLaws
pub mod MaterialLaws
pub mod RangeLaws
pub mod Evaluation
