-- The material of a face, small entries, and the definitions computed.
pub mod Materials
pub mod Small
pub mod Evaluation
