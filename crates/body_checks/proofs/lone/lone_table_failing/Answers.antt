-- `checks::lone::lone_table_failing` meets its contract. Assumes nothing.
use Rattle.body_checks.proofs.CheckLaws.{lone_13, lone_positions, lone_normals, lone_lengths}
use Rattle.body_checks.proofs.lone.lone_table_failing.Goals as goal

pub returns-then-too_many : goal.returns-then-too_many
returns-then-too_many c = search lone_13

pub returns-then-positions-v : goal.returns-then-positions-v
returns-then-positions-v c = search lone_positions

pub returns-then-normals-v : goal.returns-then-normals-v
returns-then-normals-v c = search lone_normals

pub returns : goal.returns
returns c = search lone_lengths
