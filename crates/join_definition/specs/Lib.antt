-- For each of n named items the first item of the same name: the definition, laws of it, and the definition computed.
pub mod Join
pub mod Representatives
pub mod Evaluation
