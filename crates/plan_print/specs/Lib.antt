-- What is printed of a plan, and that a program with room for every plan prints all of it.
pub mod Printing
pub mod Whole
