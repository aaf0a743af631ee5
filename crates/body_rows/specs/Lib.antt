-- The definitions of a body, laws of its rows, patches and of a list of checks, bodies written down for claims, the definitions computed, and a work area cleared.
pub mod Body
pub mod Rows
pub mod Patches
pub mod Checks
pub mod Given
pub mod Evaluation
pub mod Claims
