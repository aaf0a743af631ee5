-- `body_table_checks::table::table_failing` meets its contract. Assumes nothing.
use Rattle.body_table_checks.specs.TableFirst.{whole_passed, fails_11, fails_12, fails_13, fails_14, fails_15, fails_none}
use Rattle.body_table_checks.proofs.table.table_failing.Goals as goal

pub returns-then-not_whole : goal.returns-then-not_whole
returns-then-not_whole c = search fails_11

pub returns-then-any_bad_row : goal.returns-then-any_bad_row
returns-then-any_bad_row c = search fails_12

pub too_large-requires : goal.too_large-requires
too_large-requires c = search whole_passed

pub returns-then-too_large : goal.returns-then-too_large
returns-then-too_large c = search fails_13

pub wrong_lengths-requires : goal.wrong_lengths-requires
wrong_lengths-requires c = search whole_passed

pub returns-then-wrong_lengths : goal.returns-then-wrong_lengths
returns-then-wrong_lengths c = search fails_14

pub returns-then-any_bad_bin : goal.returns-then-any_bad_bin
returns-then-any_bad_bin c = search fails_15

pub returns : goal.returns
returns c = search fails_none
