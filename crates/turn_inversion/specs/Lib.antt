-- What measuring a group asks, and the patch of a row.
pub mod Measured
pub mod RowPatch
