-- The report's code: a body as its slices hold it, and what writing entries asks.
pub mod Bodies
pub mod Listing
