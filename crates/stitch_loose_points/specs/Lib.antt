-- Open edges and loose points: their definitions, both as they stand in the work area, laws of inserting, that the two are one, and the definitions computed.
pub mod Loose
pub mod Listed
pub mod Open
pub mod Based
pub mod Evaluation
pub mod Insertions
