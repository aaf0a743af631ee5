-- What the functions of this crate ask of each other and leave.
pub mod Runs
