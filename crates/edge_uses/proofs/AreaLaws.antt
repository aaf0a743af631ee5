-- Laws of a body's uses in a work area: those that stand there are the definition's, and their first uses, counts and runs have room. Assumes nothing.
use Rattle.std.specs.Prelude.{◌≡◌, refl, ℕ, ◌+◌, ◌*◌, ◌<◌, ◌≤◌, length, get_or, take, drop, replicate, Float}
use Rattle.std.proofs.Math.Path.{sym}
use Rattle.std.proofs.Common.{ap, ◌∙◌, subst, arith}
use mathlib.Core.List.{List, [], map}
use Rattle.std.proofs.Math.ListN.{length-map, length-drop}
use Rattle.std.proofs.lemmas.List.{length-replicate}
use Rattle.std.proofs.lemmas.List.Edits.{sets}
use Rattle.std.proofs.Math.Seq.{get_or-drop}
use Rattle.lists.specs.Sets.{take_sets, drop_sets}
use Rattle.lists.specs.Stretches.{front_at, stretch_at, stretch_sets}
use Rattle.point_rules.specs.Rule.{names}
use Rattle.point_rules.specs.Points.{key}
use Rattle.point_rules.specs.Names.{names_length}
use Rattle.body_rows.specs.Body.{Row, rows_of, patches_of}
use Rattle.body_rows.specs.Rows.{row_at}
use Rattle.join_definition.specs.Join.{joined}
use Rattle.join_definition.specs.Representatives.{joined_below, joined_low}
use Rattle.edge_uses.specs.Edges.{uses_from}
use Rattle.edge_uses.specs.Named.{use_run, use_row, row_uses, row_numbers, BodyReady}
use Rattle.edge_uses.specs.Counted.{CountReady}
use Rattle.edge_uses.specs.FirstUsers.{UsersReady, uses_in}
use Rattle.edge_uses.specs.RowUses.{Inside, uses_all, row_uses_agree, rows_listed, runs_listed}
use Rattle.edge_uses.proofs.UseLaws.{rows_uses, length_named}
use Rattle.edge_uses.specs.Area.{names_at, Layable, RunsListed}

-- the first items of n names are items, and their counts have room behind them
pub count_ready : (at n : ℕ) (X ns : List ℕ) → length ns ≡ n → take n (drop (at + n) X) ≡ joined ns → at + 3 * n ≤ length X → CountReady X (at + n) (at + 2 * n) n
count_ready at n X ns many firsts room =
    record {
      apart = omega arith;
      room = omega arith;
      low = λ i l. omega (arith, stretch_at (at + n) n X i 0 l, ap (λ (s : List ℕ). get_or s i 0) firsts, joined_below ns i (omega arith));
    }

-- ---- uses that stand in the work area

module _ {table is W : List ℕ} {points shells at : ℕ} (r : UsersReady table is W points shells at) where
  -- the indices are of vertices
  inside : Inside (rows_of table) is
  unfolding row_at
  inside = record { below = r.names.body.below }

  -- a shell's number for each row
  pub shells_many : length (rows_of table) ≤ length (drop shells W)
  shells_many = omega (arith, length-drop shells W, r.names.shells_apart, r.names.body.room)

  -- a use for each index
  pub uses_many : length (uses_in table is W points shells) ≡ length is
  unfolding row_at
  uses_many = uses_all (drop shells W) 0 (drop points W) (rows_of table) is r.names.body.whole (omega (arith, r.all)) shells_many ∙ sym r.all

  -- the numbers of the uses' rows
  pub rows_there : map use_row (uses_in table is W points shells) ≡ row_numbers 0 (rows_of table)
  unfolding row_at
  rows_there = rows_listed (drop shells W) 0 (drop points W) (rows_of table) is r.names.body.whole (omega (arith, r.all)) shells_many

  -- what lies in front of the names is as it was
  module _ (Y : List ℕ) (kept : take at Y ≡ take at W) (long : length Y ≡ length W) where
    -- the runs have room
    pub runs_ready : BodyReady table is Y points (at + 3 * length is)
    runs_ready =
        let b = r.names.body in
        record {
          rows = b.rows;
          whole = b.whole;
          below = b.below;
          inside = b.inside;
          apart = omega (arith, b.apart);
          room = omega (arith, r.room, r.all, long);
          low = λ x h. subst (λ (n : ℕ). n < 262144) (sym (front_at at (points + x) W Y 0 kept (omega (arith, b.apart)))) (b.low x h);
        }

    -- the ways the uses run, listed with shell 0 for each row
    abbrev listed : List ℕ
    listed = map use_run (row_uses (replicate (length (rows_of table)) 0) 0 (drop points Y) (rows_of table) is)

    -- are those of the uses
    runs_are : listed ≡ map use_run (uses_in table is W points shells)
    runs_are =
        runs_listed (replicate (length (rows_of table)) 0) (drop shells W) 0 (drop points Y) (rows_of table) is (omega (arith, length-replicate {A = ℕ} (length (rows_of table)) 0)) shells_many
        ∙ ap (map use_run)
        (row_uses_agree (drop shells W) (drop shells W) 0 (drop points Y) (drop points W) (rows_of table) is shells_many shells_many (λ k h. refl)
        (λ x h. get_or-drop points Y x 0 ∙ front_at at (points + x) W Y 0 kept (omega (arith, r.names.body.apart)) ∙ sym (get_or-drop points W x 0)) inside)

    -- the runs stand behind the three words
    pub runs_there : {Z : List ℕ} → Z ≡ sets Y (at + 3 * length is) listed → RunsListed table is W points shells at Y Z
    runs_there {Z} d =
        record {
          runs = ap (λ (l : List ℕ). take (length is) (drop (at + 3 * length is) l)) stored ∙ stretch_sets Y (at + 3 * length is) runs (length is) runs_long (omega (arith, r.room, long));
          front = ap (take (at + 3 * length is)) stored ∙ take_sets Y (at + 3 * length is) runs;
          rest = ap (drop (at + 4 * length is)) stored ∙ drop_sets Y (at + 3 * length is) runs (at + 4 * length is) (omega (arith, runs_long));
        }
      where
        runs : List ℕ
        runs = map use_run (uses_in table is W points shells)

        runs_long : length runs ≡ length is
        runs_long = length_named use_run (uses_in table is W points shells) ∙ uses_many

        stored : Z ≡ sets Y (at + 3 * length is) runs
        stored = d ∙ ap (sets Y (at + 3 * length is)) runs_are

-- ---- a body whose points are joined by key

module _ {table : List ℕ} {ps : List Float} {is W : List ℕ} {v m : ℕ} (g : Layable table ps is W v m) where
  -- the first vertex of each point has a name's width
  pub points_low : (x : ℕ) → get_or (joined (names key ps)) x 0 < 262144
  points_low = joined_low (names key ps) 262144 (omega arith) (omega (arith, names_length key ps v g.all_positions, g.few_vertices))

  -- the points stand behind their keys, and a number of each row's shell in front of the uses' names
  module _ (X : List ℕ) (shells : ℕ) (there : take v (drop v X) ≡ joined (names key ps)) (long : length X ≡ length W) (behind : shells + m ≤ names_at v m) where
    point_at : (x : ℕ) → x < v → get_or X (v + x) 0 ≡ get_or (joined (names key ps)) x 0
    point_at x l = sym (stretch_at v v X x 0 l) ∙ ap (λ (p : List ℕ). get_or p x 0) there

    -- the first users can be found
    pub users_ready : ((k : ℕ) → k < m → get_or X (shells + k) 0 < 4096) → UsersReady table is X v shells (names_at v m)
    users_ready low =
        record {
          names =
              record {
                body =
                    record {
                      rows = g.rows;
                      whole = g.threes;
                      below = λ k l j h. g.inside k j l h;
                      inside = omega (arith, g.all_indices_lem);
                      apart = omega (arith, g.vertices);
                      room = omega (arith, g.room, g.all_indices_lem, long);
                      low = λ x l. subst (λ (n : ℕ). n < 262144) (sym (point_at x (omega (arith, g.vertices)))) (points_low x);
                    };
                shells_apart = omega (arith, g.count);
                shells_low = λ k l. low k (omega (arith, g.count));
              };
          all = g.all_indices_lem;
          few = g.few_indices;
          room = omega (arith, g.room, long);
        }

    -- what stands in the work area are the body's uses, where f numbers each row's shell
    pub uses_there : (f : Row → ℕ) → ((k : ℕ) → k < m → get_or X (shells + k) 0 ≡ get_or (map f (rows_of table)) k 0)
        → uses_in table is X v shells ≡ uses_from f 0 (joined (names key ps)) (patches_of (rows_of table) ps [] is)
    unfolding row_at
    uses_there f e =
        row_uses_agree (drop shells X) (map f (rows_of table)) 0 (drop v X) (joined (names key ps)) (rows_of table) is
        (omega (arith, length-drop shells X, g.count, g.room, long)) (omega (arith, length-map (rows_of table) f))
        (λ k l. get_or-drop shells X k 0 ∙ e k (omega (arith, g.count)))
        (λ x l. get_or-drop v X x 0 ∙ point_at x (omega (arith, g.vertices)))
        (record { below = λ k l j h. g.inside k j l h })
        ∙ rows_uses f 0 (joined (names key ps)) (rows_of table) ps [] is
