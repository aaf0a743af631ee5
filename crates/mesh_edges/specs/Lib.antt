-- What counting the edges of a mesh asks, and what it answers and leaves in the work area.
pub mod Mesh
