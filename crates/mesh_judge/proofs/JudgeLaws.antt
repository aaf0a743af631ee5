-- Laws of the decisions on rows. Assumes nothing.
use mathlib.Core.Path.{◌≡◌, refl, sym, ap, ◌∙◌}
use mathlib.Core.List.{List, [], ◌∷◌, ◌++◌, map, append_assoc, append-nil}
use mathlib.Core.Option.{Option, none, some}
use Prim.Native.Nat.{ℕ, suc, ◌+◌, ◌*◌, ◌≤◌, ◌<◌}
use native.Mathlib.Omega.{arith}
use lib.ListN.{length, drop, set, length-set, length-append, drop_of_length-le}
use lib.Seq.{sets}
use lib.Ieee.{Float}
use Rattle.lists.specs.Sets.{sets_append}
use Rattle.body_rows.specs.Body.{Row, Patch, rows_of, patches_of}
use Rattle.body_rows.specs.Rows.{row_at}
use Rattle.body_rows.specs.Patches.{patch_from, shapes}
use Rattle.patch_geometry.specs.declared.Aabb.{Aabb}
use Rattle.mesh_verdicts.specs.declared.Failure.{Failure}
use Rattle.mesh_verdicts.specs.Failures.{failure_of}
use Rattle.mesh_materials.specs.Materials.{material_of}
use Rattle.mesh_acceptance.specs.Judged.{decision_by, decision_of, DecisionReady, Judgeable}
use Rattle.mesh_acceptance.specs.RestLaws.{rest_of, rest_here}
use Rattle.mesh_acceptance.specs.RowStarts.{AtRow, at_first, at_next, vertices_in, indices_in}

module _ (box : Aabb) (materials : List ℕ) (default : ℕ) (p : Patch) where
  -- the decision on an accepted patch
  pub decision_yes : {m r : ℕ} → none ≡ failure_of box p → m ≡ material_of materials default p.row.face → r ≡ m + 1 → r ≡ decision_of box materials default p
  unfolding decision_of decision_by
  decision_yes {m} {r} f g e = let k : m + 1 ≡ suc m = omega arith in e ∙ k ∙ (λ j. decision_by (f j) (g j))

  -- the decision on another
  pub decision_no : {f : Failure} → some f ≡ failure_of box p → 0 ≡ decision_of box materials default p
  unfolding decision_of decision_by
  decision_no h = ap (λ (o : Option Failure). decision_by o (material_of materials default p.row.face)) h

-- the decisions on the rows before row k are written: W became E
pub record Judging (table : List ℕ) (ps : List Float) (is : List ℕ) (box : Aabb) (materials : List ℕ) (default : ℕ) (W : List ℕ) (base i k : ℕ) (E : List ℕ) : Type 0 where
  pub here : AtRow table base i k
  pub done : List ℕ
  pub are : done ++ map (decision_of box materials default) (rest_of table ps [] is k base i) ≡ map (decision_of box materials default) (shapes table ps is)
  pub many : length done ≡ k
  pub put : E ≡ sets W 0 done
  pub long : length E ≡ length W

module _ {table : List ℕ} {ps : List Float} {is : List ℕ} {box : Aabb} {materials : List ℕ} {default : ℕ} {W : List ℕ} where
  -- none is written yet
  pub judging_none : Judging table ps is box materials default W 0 0 0 W
  judging_none = record { here = at_first table; done = []; are = refl; many = refl; put = refl; long = refl }

  -- what the decision on row k asks
  pub judging_ready : {base i k : ℕ} {E : List ℕ} → Judgeable table ps is materials default W → Judging table ps is box materials default W base i k E → k < length (rows_of table)
      → DecisionReady table ps is materials default k base i
  judging_ready g c l =
      record {
        judgeable = record {
          row = l;
          positions_in = omega (arith, g.all_positions, vertices_in c.here l);
          indices_in = omega (arith, g.all_indices_lem, indices_in c.here l);
        };
        small = g.small;
      }

  -- the decision on row k is written
  pub judging_more : {base i k : ℕ} {E : List ℕ} {d vertices indices : ℕ} → Judging table ps is box materials default W base i k E → k < length (rows_of table)
      → d ≡ decision_of box materials default (patch_from (row_at table k) ps [] is base i) → vertices ≡ (row_at table k).vertices → indices ≡ (row_at table k).indices
      → Judging table ps is box materials default W (base + vertices) (i + indices) (k + 1) (set E k d)
  judging_more {base} {i} {k} {E} {d} {vertices} {indices} c l e v n =
      let D = decision_of box materials default in
      let p = patch_from (row_at table k) ps [] is base i in
      record {
        here = at_next c.here l v n;
        done = c.done ++ d ∷ [];
        are =
            append_assoc c.done (d ∷ []) (map D (rest_of table ps [] is (k + 1) (base + vertices) (i + indices)))
            ∙ (λ j. c.done ++ e j ∷ map D (rest_of table ps [] is (k + 1) (base + v j) (i + n j)))
            ∙ ap (λ (qs : List Patch). c.done ++ map D qs) (sym (rest_here table ps [] is k base i l))
            ∙ c.are;
        many = omega (arith, length-append c.done (d ∷ []), c.many);
        put =
            ap (λ (ys : List ℕ). set ys k d) c.put
            ∙ ap (λ (m : ℕ). set (sets W 0 c.done) m d) (let z : k ≡ 0 + length c.done = omega (arith, c.many) in z)
            ∙ sym (sets_append W 0 c.done (d ∷ []));
        long = simp length-set c.long;
      }

  -- all are
  pub judging_all : {base i k : ℕ} {E : List ℕ} → Judging table ps is box materials default W base i k E → length (rows_of table) ≤ k
      → E ≡ sets W 0 (map (decision_of box materials default) (shapes table ps is))
  unfolding patches_of
  judging_all {base} {i} {k} {E} c l =
      let D = decision_of box materials default in
      let none_left : map D (rest_of table ps [] is k base i) ≡ [] =
      ap (λ (rows : List Row). map D (patches_of rows (drop (3 * base) ps) (drop (3 * base) []) (drop i is))) (drop_of_length-le (rows_of table) l) in
      c.put ∙ ap (sets W 0) (sym (append-nil c.done) ∙ ap (λ (ds : List ℕ). c.done ++ ds) (sym none_left) ∙ c.are)
