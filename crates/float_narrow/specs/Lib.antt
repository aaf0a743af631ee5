-- The definition of narrowing, its value, worked examples, and the definition computed.
pub mod Narrow
pub mod Cases
pub mod Evaluation
pub mod Narrowing
