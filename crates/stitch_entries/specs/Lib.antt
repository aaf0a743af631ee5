-- Pairs of found points read as entries.
pub mod PairEntries
pub mod LeastPairs
