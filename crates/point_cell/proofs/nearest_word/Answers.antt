-- `point_cell::nearest_word` meets its contract. Assumes nothing.
use borrow.Author.Rules.{rules}
use Rattle.point_cell.proofs.Words.{word_plus, word_minus, word_fits, size_within}
use Rattle.point_cell.proofs.nearest_word.Goals as goal

pub overflow_add-result : goal.overflow_add-result
overflow_add-result c = search (rules, word_fits)

pub overflow_sub-result : goal.overflow_sub-result
overflow_sub-result c = search (rules, size_within)

pub returns-then-bits_of_f32-lt2147483648 : goal.returns-then-bits_of_f32-lt2147483648
returns-then-bits_of_f32-lt2147483648 c = search word_plus

pub returns-else-bits_of_f32-lt2147483648 : goal.returns-else-bits_of_f32-lt2147483648
returns-else-bits_of_f32-lt2147483648 c = search word_minus
