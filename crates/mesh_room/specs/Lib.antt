-- The slices that assemble is lent, the checks 42 and 41, what they ask of lengths, and the definitions computed.
pub mod Slices
pub mod Room
pub mod Evaluation
