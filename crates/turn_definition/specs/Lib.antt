-- Turning by definition: pairs of rows, whether a group is inverted, all groups, coloured rows reversed, the call and its answer; the definitions computed, and small bodies turned.
pub mod Pairs
pub mod Inversion
pub mod Groups
pub mod Reversal
pub mod Orient
pub mod Answers
pub mod Evaluation
pub mod Claims
