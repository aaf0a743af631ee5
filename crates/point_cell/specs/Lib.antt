-- What a factor and a limit must have for one shift to round a coordinate times the factor, the word of what it is rounded to, and a cell as the code answers it.
pub mod Scale
pub mod Told
