-- The definitions of the float steps, the bit patterns of f64, what is shown of the larger of two, and worked examples.
pub mod Floats
pub mod Patterns
pub mod Plus
pub mod Cases
pub mod Evaluation
