-- The passes over the rows of a placed body: what they ask and give, and the smallest sum of squares with the bins that have it.
pub mod Hits
pub mod Search
