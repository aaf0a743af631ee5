-- What writing the mesh asks and leaves.
pub mod Written
