-- Theorems about the definitions, by subject.
pub mod Agreement
pub mod Reading
