-- Loose vertices gathered: the vertices that stand for points, and what gathering asks and leaves.
pub mod Standing
pub mod Gathering
