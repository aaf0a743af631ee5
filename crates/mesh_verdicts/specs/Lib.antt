-- Why a patch is not accepted, the failure that an answer tells of, and the definitions computed.
pub mod Failures
pub mod Verdicts
pub mod Evaluation
