-- The definitions of splits, entries and found points as the code has them, that these are the definitions', and the definitions computed.
pub mod Splits
pub mod Entries
pub mod Found
pub mod SideLaws
pub mod Filters
pub mod Cells
pub mod Evaluation
pub mod FoundPoints
pub mod Places
pub mod Sorted
