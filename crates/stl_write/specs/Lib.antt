-- What writing a mesh's triangles asks.
pub mod Ready
