-- A body's patches laid flat and read again, and what passes the checks 11 to 24 patch by patch.
pub mod Flat
pub mod Passing
