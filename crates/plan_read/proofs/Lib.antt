-- The laws that the proofs of this crate cite.
mod ItemLaws
mod GroupLaws
mod PlanLaws
