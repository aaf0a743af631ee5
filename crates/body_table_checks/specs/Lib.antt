-- The checks 11 to 15: their conditions by name, what a table has once they have passed, and which fails first.
pub mod TableTests
pub mod Tabled
pub mod TableFirst
