-- What colouring leaves.
pub mod Coloured
