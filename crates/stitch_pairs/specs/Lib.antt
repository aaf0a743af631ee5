-- Found points as pairs of words, and the order they are kept in.
pub mod FoundPairs
pub mod Words
pub mod BitOrder
pub mod Spots
pub mod Inserted
pub mod RankedLaws
pub mod SortedEntries
