-- Laws of the stages: vertices joined in front of one shell for all rows, and uses counted behind their names. Assumes nothing.
use mathlib.Core.Path.{◌≡◌, ap, ◌∙◌}
use mathlib.Core.List.{List, map}
use Prim.Native.Nat.{ℕ, ◌+◌, ◌-◌, ◌*◌}
use native.Mathlib.Omega.{arith}
use lib.ListN.{length, take, drop, replicate, length-replicate}
use lib.Seq.{sets}
use lib.Dec.{eqb}
use lib.Ieee.{Float}
use Rattle.lists.specs.Lists.{count_if}
use Rattle.lists.specs.Sets.{take_sets, drop_sets}
use Rattle.lists.specs.Stretches.{front_at, front_less, rest_less, stretch_kept, stretch_sets}
use Rattle.body_rows.specs.Body.{rows_of}
use Rattle.join_points.specs.declared.vertices.Rule.TheVariants.{Key}
use Rattle.join_points.specs.Rules.{rule_of, words_of, JoinedPoints}
use Rattle.edge_uses.specs.Named.{use_name, use_run, row_uses, BodyReady}
use Rattle.edge_uses.specs.FirstUsers.{UsersReady, FirstUsers, uses_in}
use Rattle.edge_uses.specs.Counted.{CountReady, Counted}
use Rattle.edge_uses.proofs.UseLaws.{length_named}
use Rattle.edge_uses.specs.Area.{RunsListed}
use Rattle.edge_uses.proofs.AreaLaws.{count_ready, uses_many, runs_ready, runs_there}
use Rattle.stitch_loose_points.specs.Open.{Joinable, BodyJoined, UsesCounted}

-- ---- vertices and rows

module _ {ps : List Float} {v m : ℕ} {W : List ℕ} (g : Joinable ps v m W) where
  -- the vertices are joined, and each row has shell 0
  pub body_joined : {X E : List ℕ} → length X ≡ length W → JoinedPoints Key ps v W X → E ≡ sets X (4 * v) (replicate (4 * v + m - 4 * v) 0) → BodyJoined ps v m W E
  unfolding rule_of words_of
  body_joined {X} {E} long p e =
      record {
        words = front_less v (4 * v) X E kept (omega arith) ∙ p.words;
        points = stretch_kept v v (4 * v) X E kept (omega arith) ∙ p.reps;
        shells = ap (λ (l : List ℕ). take m (drop (4 * v) l)) filled ∙ stretch_sets X (4 * v) (replicate m 0) m zeros_long (omega (arith, g.room));
        rest = ap (drop (4 * v + m)) filled ∙ drop_sets X (4 * v) (replicate m 0) (4 * v + m) (omega (arith, zeros_long)) ∙ rest_less (4 * v) (4 * v + m) W X p.rest (omega arith);
      }
    where
      gap : 4 * v + m - 4 * v ≡ m
      gap = omega arith

      filled : E ≡ sets X (4 * v) (replicate m 0)
      filled = e ∙ ap (λ (k : ℕ). sets X (4 * v) (replicate k 0)) gap

      kept : take (4 * v) E ≡ take (4 * v) X
      kept = ap (take (4 * v)) filled ∙ take_sets X (4 * v) (replicate m 0)

      zeros_long : length (replicate {A = ℕ} m 0) ≡ m
      zeros_long = length-replicate m 0

-- ---- uses

module _ {table is W : List ℕ} {points shells at : ℕ} (r : UsersReady table is W points shells at) where
  -- the names of the uses
  abbrev ns : List ℕ
  ns = map use_name (uses_in table is W points shells)

  ns_many : length ns ≡ length is
  ns_many = length_named use_name (uses_in table is W points shells) ∙ uses_many r

  module _ {X : List ℕ} (f : FirstUsers table is W points shells at X) (long : length X ≡ length W) where
    -- the counts have room behind the first uses
    pub counts_room : CountReady X (at + length is) (at + 2 * length is) (length is)
    counts_room = count_ready at (length is) X ns ns_many f.firsts (omega (arith, r.room))

    module _ {Y : List ℕ} (k : Counted X (at + length is) (at + 2 * length is) (length is) Y) (y_long : length Y ≡ length X) where
      -- what lies in front of the names is as it was
      kept : take at Y ≡ take at W
      kept = front_less at (at + 2 * length is) X Y k.front (omega arith) ∙ f.front

      -- the runs have room behind the counts
      pub runs_room : BodyReady table is Y points (at + 3 * length is)
      runs_room = runs_ready r Y kept (y_long ∙ long)

      module _ {Z : List ℕ} (d : Z ≡ sets Y (at + 3 * length is) (map use_run (row_uses (replicate (length (rows_of table)) 0) 0 (drop points Y) (rows_of table) is))) where
        listed : RunsListed table is W points shells at Y Z
        listed = runs_there r Y kept (y_long ∙ long) d

        -- the uses are counted
        pub uses_counted : UsesCounted table is W points shells at Z
        uses_counted =
            record {
              firsts =
                  stretch_kept (at + length is) (length is) (at + 3 * length is) Y Z listed.front (omega arith)
                  ∙ stretch_kept (at + length is) (length is) (at + 2 * length is) X Y k.front (omega arith)
                  ∙ f.firsts;
              count = λ j l.
                  front_at (at + 3 * length is) (at + 2 * length is + j) Y Z 0 listed.front (omega arith)
                  ∙ k.count j l
                  ∙ ap (count_if (eqb j)) f.firsts;
              runs = listed.runs;
              front = front_less at (at + 3 * length is) Y Z listed.front (omega arith) ∙ kept;
              rest =
                  listed.rest
                  ∙ rest_less (at + 2 * length is + length is) (at + 4 * length is) X Y k.rest (omega arith)
                  ∙ f.rest;
            }
