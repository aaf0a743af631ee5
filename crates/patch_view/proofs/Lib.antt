-- Theorems about the definitions, by subject.
pub mod Views
