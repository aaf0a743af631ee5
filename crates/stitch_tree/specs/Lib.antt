-- Boxes of blocks of points, points put in an order by swaps, and the tree of both.
pub mod Nodes
pub mod Ordering
pub mod Trees
pub mod Kept
