-- The definition of rounding to a whole number, laws of a fraction rounded, worked examples, and the definition computed.
pub mod Integral
pub mod Fractions
pub mod Cases
pub mod Evaluation
