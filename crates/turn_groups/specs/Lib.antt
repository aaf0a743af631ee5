-- A group settled, and all groups settled.
pub mod Settled
pub mod Walked
