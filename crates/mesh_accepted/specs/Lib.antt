-- What assembling a body that passed its checks asks and leaves.
pub mod Rows
