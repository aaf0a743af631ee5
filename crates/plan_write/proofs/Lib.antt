-- The laws that the proofs of this crate cite.
mod WordLaws
mod EntryLaws
mod ListingLaws
