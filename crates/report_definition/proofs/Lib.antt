-- Theorems over the definitions of this crate.
pub mod BodyAudit
pub mod MarkLaws
