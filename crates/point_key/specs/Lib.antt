-- A key as the code answers it.
pub mod Told
