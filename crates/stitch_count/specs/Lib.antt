-- The splits of a body as the code finds them: triangles with the entries that they keep, counted, and the work area made ready for it.
pub mod Views
pub mod Counting
pub mod ByFinder
pub mod RowLaws
pub mod RowByRow
pub mod SearchOrder
pub mod Prepared
pub mod Limits
