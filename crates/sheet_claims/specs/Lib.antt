-- The sheets with their answers, one to a file.
pub mod WorkedExample
pub mod Pinwheel
pub mod MoebiusStrip
pub mod TJunction3
pub mod Soup3
pub mod Escape3
pub mod Materials3
pub mod Failed3
pub mod Sag3
pub mod Flat3
pub mod Refused3
pub mod Limits3
pub mod Malformed3
