-- The laws that the proofs of this crate cite, by subject.
pub mod FaceLaws
pub mod CountLaws
pub mod RankLaws
pub mod EntryLaws
pub mod UseLaws
pub mod BodyLaws
