-- The laws that the proofs of this crate's functions cite.
mod Laws
