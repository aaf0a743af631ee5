-- What a lookup answers and leaves.
pub mod Answer
