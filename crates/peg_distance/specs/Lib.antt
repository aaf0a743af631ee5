-- Words of a peg and a row's place, what a row's vertices come to by them, and that this is what the definition lists.
pub mod Words
