-- The uses laid out for the walk, and that their pairs are the definition's.
pub mod PairLaws
pub mod Laid
