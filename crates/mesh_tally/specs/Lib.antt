-- What counting edges from the words of their uses asks and answers.
pub mod Tally
