-- The laws that the proofs of this crate cite.
mod PieceLaws
mod ScanLaws
mod KindLaws
mod WriteLaws
