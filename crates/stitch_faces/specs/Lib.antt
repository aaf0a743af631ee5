-- A row's indices after stitching, places in a list, a patch without a new vertex, that a face's indices are its patch's, and faces of small bodies.
pub mod Faces
pub mod Places
pub mod Unsplit
pub mod Claims
pub mod StitchedFaces
