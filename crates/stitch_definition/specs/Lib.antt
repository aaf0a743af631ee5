-- Stitching by definition: the stitched body, the slices and checks of the result, the call and its answer; the definitions computed, and small bodies stitched.
pub mod StitchedBody
pub mod Slices
pub mod Stitch
pub mod Answers
pub mod Evaluation
pub mod Claims
