-- What a view of a patch shows.
pub mod Views
