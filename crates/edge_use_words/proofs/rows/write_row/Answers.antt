-- `write_row` meets its contract: after each triangle the words of those before it are written. `c.requires.1` has what is asked of the row, that `word` can be
-- called, and what it answers. Assumes nothing.
use Rattle.std.proofs.Common.{◌∙◌, ◌∷◌, [], ◌+◌, arith}
use Rattle.std.proofs.lemmas.List.Edits.{sets}
use Rattle.edge_use_words.proofs.RowLaws.{writing_none, writing_more, writing_all, point_ready_0, point_ready_1, point_ready_2, three_room, points_low}
use Rattle.edge_use_words.proofs.rows.write_row.Goals as goal
use Rattle.edge_use_words.proofs.rows.write_row.Goals.{else-loop-k-test, then-loop-k-test+else-to-k-gt3}

pub loop-k-init : goal.loop-k-init
loop-k-init g c = writing_none g.word_of _ c.requires.1.0

pub point_at-a-requires : goal.point_at-a-requires
point_at-a-requires g c = point_ready_0 c.requires.1.0 c.loop-k.invariant c.loop-k-test.true

pub point_at-b-requires : goal.point_at-b-requires
point_at-b-requires g c = point_ready_1 c.requires.1.0 c.loop-k.invariant c.loop-k-test.true

pub point_at-c-requires : goal.point_at-c-requires
point_at-c-requires g c = point_ready_2 c.requires.1.0 c.loop-k.invariant c.loop-k-test.true

pub word-requires : goal.word-requires
word-requires g c =
    let l = points_low c.requires.1.0 c.loop-k.invariant c.loop-k-test.true c.point_at-a.ensures c.point_at-b.ensures c.point_at-c.ensures in
    c.requires.1.1.0 _ _ l.a_low l.b_low

pub word-requires-in-loop-k : goal.word-requires-in-loop-k
word-requires-in-loop-k g c =
    let l = points_low c.requires.1.0 c.loop-k.invariant c.loop-k-test.true c.point_at-a.ensures c.point_at-b.ensures c.point_at-c.ensures in
    c.requires.1.1.0 _ _ l.b_low l.c_low

pub word-requires-in-loop-k-2 : goal.word-requires-in-loop-k-2
word-requires-in-loop-k-2 g c =
    let l = points_low c.requires.1.0 c.loop-k.invariant c.loop-k-test.true c.point_at-a.ensures c.point_at-b.ensures c.point_at-c.ensures in
    c.requires.1.1.0 _ _ l.c_low l.a_low

pub put-requires : goal.put-requires
put-requires g c = three_room c.requires.1.0 c.loop-k.invariant c.loop-k-test.true

pub loop-k-preserved : goal.loop-k-preserved
loop-k-preserved g c =
    writing_more c.requires.1.0 c.loop-k.invariant c.loop-k-test.true c.point_at-a.ensures c.point_at-b.ensures c.point_at-c.ensures
    (c.put.ensures.stored
    ∙ (λ j. sets c.loop-k.w (c.args.at + c.loop-k.k) (c.requires.1.1.1 _ _ _ c.word.ensures j ∷ c.requires.1.1.1 _ _ _ c.word-in-loop-k.ensures j ∷ c.requires.1.1.1 _ _ _ c.word-in-loop-k-2.ensures j ∷ [])))

pub returns : goal.returns
returns g c =
    elim c.loop-k-test.branch [
      | else-loop-k-test w ↦ w.w-is ∙ writing_all c.loop-k.invariant w.loop-k-test.false
      | then-loop-k-test+else-to-k-gt3 w ↦
          w.w-is
          ∙ writing_all
          (writing_more c.requires.1.0 c.loop-k.invariant w.loop-k-test.true w.point_at-a.ensures w.point_at-b.ensures w.point_at-c.ensures
          (w.put.ensures.stored
          ∙ (λ j. sets c.loop-k.w (c.args.at + c.loop-k.k) (c.requires.1.1.1 _ _ _ w.word.ensures j ∷ c.requires.1.1.1 _ _ _ w.word-in-loop-k.ensures j ∷ c.requires.1.1.1 _ _ _ w.word-in-loop-k-2.ensures j ∷ []))))
          (omega arith)
    ]
