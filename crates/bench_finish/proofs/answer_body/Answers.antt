-- `answer_body` writes what the program is to print of the body. Assumes nothing.
use mathlib.Core.Path.{◌∙◌}
use Rattle.bench_finish.proofs.SheetLaws.{body_told}
use borrow.Author.Rules.{rules}
use Rattle.bench_finish.proofs.answer_body.Goals as goal

pub overflow_mul-n : goal.overflow_mul-n
overflow_mul-n c = search (rules, c.requires.limited.vertices, c.requires.limited.few.vertices)

pub overflow_mul-k : goal.overflow_mul-k
overflow_mul-k c = search (rules, c.requires.limited.rows, c.requires.limited.few.rows)

pub returns : goal.returns
returns c = body_told _ _ _ _ _ c.args.materials.now c.requires.limited _ _ _ _ _ _ _ _ c.args.body_positions.now c.args.body_normals.now _ _ c.args.body_indices.now _ _ _ _ _ _ c.requires.body_room c.front.ensures c.front-2.ensures c.front-3.ensures c.front-4.ensures c.materials_to.ensures c.floats_of.ensures c.floats_of-2.ensures c.copy.ensures c.sag_of.ensures c.box_of.ensures c.finish_fronts.ensures
