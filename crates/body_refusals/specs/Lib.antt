-- The checks of a body, in their order, and of a patch alone, the definitions computed, and bodies at their edges.
pub mod TableChecks
pub mod PatchChecks
pub mod BodyChecks
pub mod Evaluation
pub mod Claims
