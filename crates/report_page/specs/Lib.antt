-- What the functions of the page ask and leave: the share, what rows count, and a body added.
pub mod Shares
pub mod Counts
pub mod BodyLaws
pub mod Adding
