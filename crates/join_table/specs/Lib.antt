-- Where the names of the items are, and what the table of chains asks and leaves.
pub mod Naming
pub mod Table
