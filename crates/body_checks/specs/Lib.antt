-- What a body has once its checks have passed, that none of its cells is clamped, and its work area cleared.
pub mod Accepted
pub mod Cells
pub mod Cleared
