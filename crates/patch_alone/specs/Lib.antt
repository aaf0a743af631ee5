-- The definitions of a patch asked about alone, its answers as values and as numbers, and the definitions computed.
pub mod Alone
pub mod Answers
pub mod Evaluation
