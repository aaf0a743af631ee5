-- The definitions' answers as the C structs: of a patch alone, of the three calls, of plans, of pegs, of cells and of keys, and of the report.
pub mod Answers
pub mod Turning
pub mod Stitching
pub mod Assembling
pub mod AssembledStruct
pub mod Plans
pub mod Pegs
pub mod Naming
pub mod Reports
pub mod ReportCalls
