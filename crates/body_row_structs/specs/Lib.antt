-- The face table as a slice of rows.
pub mod FaceRows
