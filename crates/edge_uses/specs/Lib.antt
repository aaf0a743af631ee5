-- The definitions of uses, their words in the work area, laws of both, and the definitions computed.
pub mod Edges
pub mod Laws
pub mod Named
pub mod NameLaws
pub mod RowUses
pub mod Counted
pub mod FirstUsers
pub mod Seen
pub mod Area
pub mod Evaluation
pub mod Claims
pub mod UseLaws
