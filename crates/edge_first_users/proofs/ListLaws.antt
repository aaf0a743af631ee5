-- Laws of listing the uses: rows and runs stand behind their first uses. Assumes nothing.
use mathlib.Core.Path.{◌≡◌, sym, ap, ◌∙◌}
use mathlib.Core.List.{List, map}
use Prim.Native.Nat.{ℕ, ◌+◌, ◌*◌}
use native.Mathlib.Omega.{arith}
use lib.ListN.{length, take, drop, replicate}
use lib.Seq.{sets, length-sets}
use Rattle.lists.specs.Sets.{take_sets, drop_sets}
use Rattle.lists.specs.Stretches.{front_less, stretch_kept, stretch_sets}
use Rattle.body_rows.specs.Body.{rows_of}
use Rattle.edge_uses.specs.Named.{use_run, use_row, row_uses, row_numbers, BodyReady, RowsRoom}
use Rattle.edge_uses.specs.FirstUsers.{UsersReady, FirstUsers, uses_in}
use Rattle.edge_uses.proofs.UseLaws.{length_named}
use Rattle.edge_uses.specs.Area.{RunsListed, UsesListed}
use Rattle.edge_uses.proofs.AreaLaws.{uses_many, rows_there, runs_ready, runs_there}

module _ {table is W : List ℕ} {points shells at : ℕ} (r : UsersReady table is W points shells at) where
  numbers_long : length (row_numbers 0 (rows_of table)) ≡ length is
  numbers_long = sym (ap length (rows_there r)) ∙ length_named use_row (uses_in table is W points shells) ∙ uses_many r

  -- the rows have room behind the first uses
  pub rows_room : {X : List ℕ} → length X ≡ length W → RowsRoom table X (at + 2 * length is)
  rows_room l = record { rows = r.names.body.rows; whole = r.names.body.whole; room = omega (arith, r.room, r.all) }

  module _ {X Y : List ℕ} (f : FirstUsers table is W points shells at X) (long : length X ≡ length W) (e : Y ≡ sets X (at + 2 * length is) (row_numbers 0 (rows_of table))) where
    -- what lies in front of the names is as it was
    kept : take at Y ≡ take at W
    kept = front_less at (at + 2 * length is) X Y (ap (take (at + 2 * length is)) e ∙ take_sets X (at + 2 * length is) (row_numbers 0 (rows_of table))) (omega arith) ∙ f.front

    y_long : length Y ≡ length W
    y_long = ap length e ∙ length-sets X (at + 2 * length is) (row_numbers 0 (rows_of table)) ∙ long

    -- the runs have room behind the rows
    pub runs_room : BodyReady table is Y points (at + 3 * length is)
    runs_room = runs_ready r Y kept y_long

    module _ {Z : List ℕ} (d : Z ≡ sets Y (at + 3 * length is) (map use_run (row_uses (replicate (length (rows_of table)) 0) 0 (drop points Y) (rows_of table) is))) where
      listed : RunsListed table is W points shells at Y Z
      listed = runs_there r Y kept y_long d

      y_front : take (at + 2 * length is) Y ≡ take (at + 2 * length is) X
      y_front = ap (take (at + 2 * length is)) e ∙ take_sets X (at + 2 * length is) (row_numbers 0 (rows_of table))

      -- the uses are listed
      pub uses_listed : UsesListed table is W points shells at Z
      uses_listed =
          record {
            firsts =
                stretch_kept (at + length is) (length is) (at + 3 * length is) Y Z listed.front (omega arith)
                ∙ stretch_kept (at + length is) (length is) (at + 2 * length is) X Y y_front (omega arith)
                ∙ f.firsts;
            rows =
                stretch_kept (at + 2 * length is) (length is) (at + 3 * length is) Y Z listed.front (omega arith)
                ∙ ap (λ (l : List ℕ). take (length is) (drop (at + 2 * length is) l)) e
                ∙ stretch_sets X (at + 2 * length is) (row_numbers 0 (rows_of table)) (length is) numbers_long (omega (arith, r.room, long));
            runs = listed.runs;
            rest =
                listed.rest
                ∙ ap (drop (at + 4 * length is)) e
                ∙ drop_sets X (at + 2 * length is) (row_numbers 0 (rows_of table)) (at + 4 * length is) (omega (arith, numbers_long))
                ∙ f.rest;
          }
