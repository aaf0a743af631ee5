-- The words that order rows, what the functions of this crate ask and leave, and laws of the vertices before a row.
pub mod Order
pub mod Bases
