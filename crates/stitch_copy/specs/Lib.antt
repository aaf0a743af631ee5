-- A body copied, and what putting the stitched body asks.
pub mod Copied
pub mod Put
