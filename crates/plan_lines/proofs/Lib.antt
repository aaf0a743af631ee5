-- The laws that the proofs of this crate cite.
mod EndLaws
mod KindLaws
mod SumLaws
mod EntryLaws
