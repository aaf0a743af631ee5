-- What the functions that write one new vertex ask.
pub mod VertexSteps
