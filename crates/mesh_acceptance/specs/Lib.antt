-- The definitions of acceptance, what the code asks and leaves, laws of both, and the definitions computed.
pub mod Acceptance
pub mod Judged
pub mod JudgedLaws
pub mod RestLaws
pub mod RowStarts
pub mod Evaluation
