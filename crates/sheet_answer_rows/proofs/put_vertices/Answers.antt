-- `put_vertices` meets its contract. Assumes nothing.
use mathlib.Core.Path.{◌≡◌}
use lib.ListN.{length-append}
use Rattle.std.proofs.lemmas.Slice.Zip.{zip_turn, zip_end}
use Rattle.sheet_answer_rows.proofs.RowLaws.{chunks, corner_all, corner_more, lined_none}
use borrow.Author.Rules.{rules}
use Rattle.sheet_answer_rows.proofs.put_vertices.Goals as goal

pub loop-position-init : goal.loop-position-init
loop-position-init c = search (rules, lined_none)

pub loop-position-preserved : goal.loop-position-preserved
loop-position-preserved c =
    rw length-append
    (corner_more _ _ _ _ _ _ _ c.loop-position.invariant _ _
    (zip_turn (chunks c.args.positions.now) (chunks c.args.normals.now) c.loop-position.yielded c.into_iter-position-iterator.result c.loop-position.position-iterator c.next.new.self c.next.result
    (search rules) (search rules) c.loop-position.yielded_by (c.in-Some.position, c.in-Some.normal) c.in-Some.is c.next.ensures.steps)
    _ _ c.put_vertex-next.ensures)

pub returns : goal.returns
returns c =
    corner_all _ _ _ _ _ _ _ c.loop-position.invariant
    (zip_end (chunks c.args.positions.now) (chunks c.args.normals.now) c.loop-position.yielded c.into_iter-position-iterator.result c.loop-position.position-iterator c.next.new.self c.next.result
    (search rules) (search rules) c.loop-position.yielded_by c.in-None.is c.next.ensures.steps)
