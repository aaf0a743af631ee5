-- The report: its page, the winding audit, the call, the page of many bodies, the calls in a row, the theorem of two lists, the definitions computed, and claims.
pub mod Divisor
pub mod Page
pub mod DivisorLaws
pub mod Audit
pub mod AuditLaws
pub mod Report
pub mod Share
pub mod Pages
pub mod Limits
pub mod Calls
pub mod TwoLists
pub mod Evaluation
pub mod Claims
pub mod BodyAudit
