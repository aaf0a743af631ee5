-- `body_table_checks::limits::too_many` meets its contract. Assumes nothing.
use Rattle.body_table_checks.proofs.TableLaws.{many_vertices, many_indices}
use Rattle.body_table_checks.proofs.limits.too_many.Goals as goal

pub returns-then-vertices-gt-MOST_VERTICES : goal.returns-then-vertices-gt-MOST_VERTICES
returns-then-vertices-gt-MOST_VERTICES c = search many_vertices

pub returns : goal.returns
returns c = search many_indices
