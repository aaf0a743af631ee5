-- That the report counts of a body what assembling it answers: the counts of its acceptance, and the theorem.
pub mod Counted
pub mod PageMesh
