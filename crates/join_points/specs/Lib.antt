-- The rules by which vertices are joined.
pub mod Rules
