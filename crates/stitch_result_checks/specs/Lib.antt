-- The checks 33 and 32 by counts and lengths, and what stitching an accepted body asks and leaves.
pub mod Results
pub mod Stitched
