-- The numbers of refusals, answers that say them, and their laws.
pub mod Numbers
pub mod Laws
