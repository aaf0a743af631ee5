-- The definition of the square root, what is shown of it, worked examples, and the definitions computed.
pub mod Roots
pub mod Root
pub mod SquareRoot
pub mod RootOrder
pub mod RootLarger
pub mod Cases
pub mod Evaluation
