-- What the functions of this crate ask and leave, and that an audit looks at no normals and is asked of accepted bodies only.
pub mod Faces
pub mod Counts
pub mod Ranks
pub mod Audited
