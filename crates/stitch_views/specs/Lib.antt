-- That what the code sees of the triangles is the stitched body.
pub mod TriangleViews
pub mod ViewLaws
