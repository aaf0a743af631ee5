-- The decisions on rows, and what writing their tables asks and leaves.
pub mod Tables
