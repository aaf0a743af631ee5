-- That what stitch leaves passes the checks 11 to 24: where new vertices come from, sizes of floats, mixed normals, stitched patches, and the call.
pub mod NewPoints
pub mod Sizes
pub mod MixedNormals
pub mod StitchedPatches
pub mod StitchedBodies
