-- The definitions of points and the box, boxes and points written down for claims, and the definitions computed.
pub mod Geometry
pub mod Given
pub mod Evaluation
