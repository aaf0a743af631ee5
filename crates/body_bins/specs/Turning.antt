-- Turning and bins: turned patches have the rows that they had, and an accepted body is turned alike whatever its bins. Assumes nothing.
use Rattle.std.specs.Prelude.{◌≡◌, refl, Bool, cond, ℕ, length, eqb, Float}
use Rattle.std.proofs.Common.{sym, ◌∙◌}
use Rattle.std.proofs.Math.Path.{ap}
use Rattle.std.proofs.Math.Bool.{true, false}
use mathlib.Core.List.{List, [], ◌∷◌, ◌++◌, map, flat_map}
use Rattle.std.specs.Float.Ieee.{neg}
use Rattle.point_rules.specs.Rule.{Rule, names}
use Rattle.join_definition.specs.Join.{joined}
use Rattle.body_rows.specs.Body.{Row, Patch, rows_of, patches_of, first_failing}
use Rattle.body_refusals.specs.BodyChecks.{body_checks}
use Rattle.turn_walk.specs.Walk.{coloured}
use Rattle.turn_definition.specs.Reversal.{swapped, turned_patch, turned_body}
use Rattle.turn_definition.specs.Groups.{Walks}
use Rattle.turn_definition.specs.Orient.{AfterTurn, walks_of, turn_body, refuse_turn, turn_of}
use Rattle.turn_definition.proofs.Seen.{walks_seen}
use Rattle.body_bins.specs.Covered.{covered_table, cover_row, cover_patch, rows_covered, patches_covered, cleared_covered, flat_covered_normals, flat_covered_indices}

-- ---- turn leaves every row as it was

-- Turned patches have the rows that they had, their bins too; turn writes no table.
pub turn_keeps_rows : (colours : List ℕ) (patches : List Patch) → map (λ p. p.row) (turned_body colours patches) ≡ map (λ p. p.row) patches
unfolding turned_body turned_patch
turn_keeps_rows [] patches = refl
turn_keeps_rows (c ∷ cs) [] = refl
turn_keeps_rows (c ∷ cs) (p ∷ ps) = λ i. one (eqb c coloured) i ∷ turn_keeps_rows cs ps i
  where
    one : (b : Bool) → (cond b (record { row = p.row; positions = p.positions; normals = map neg p.normals; indices = swapped p.indices }) p).row ≡ p.row
    one true = refl
    one false = refl

-- ---- bins play no part

-- covered patches are turned as the patches are
turned_covered : (colours : List ℕ) (patches : List Patch) → turned_body colours (map cover_patch patches) ≡ map cover_patch (turned_body colours patches)
unfolding turned_body turned_patch
turned_covered [] patches = refl
turned_covered (c ∷ cs) [] = refl
turned_covered (c ∷ cs) (p ∷ ps) = λ i. one (eqb c coloured) i ∷ turned_covered cs ps i
  where
    one : (b : Bool) → cond b (record { row = cover_row p.row; positions = p.positions; normals = map neg p.normals; indices = swapped p.indices }) (cover_patch p)
        ≡ cover_patch (cond b (record { row = p.row; positions = p.positions; normals = map neg p.normals; indices = swapped p.indices }) p)
    one true = refl
    one false = refl

module _ (rule : Rule) (ps ns : List Float) (is work : List ℕ) where
  -- rows turned
  abbrev turn_rows : List Row → AfterTurn
  turn_rows rows = turn_body rows (patches_of rows ps ns is) (walks_of (patches_of rows ps ns is) (joined (names rule ps))) work

  -- an accepted body is turned by its rows
  accepted : (table : List ℕ) → first_failing (body_checks table ps ns is (length work)) ≡ 0 → turn_of rule table ps ns is work ≡ turn_rows (rows_of table)
  unfolding turn_of
  accepted table h = ap (λ (n : ℕ). elim (eqb n 0) [ true ↦ turn_rows (rows_of table) | false ↦ refuse_turn n ns is work ]) h

  -- patches turned by their walks
  patches_turned : (rows : List Row) (patches : List Patch) (w : Walks) → turn_body (map cover_row rows) (map cover_patch patches) w work ≡ turn_body rows patches w work
  unfolding turn_body
  patches_turned rows patches w =
      let q = turned_covered w.colours patches in
      λ i. record {
        refusal = 0;
        turned = (turn_body rows patches w work).turned;
        against = w.against;
        normals = (ap (λ (l : List Patch). flat_map (λ p. p.normals) l) q ∙ flat_covered_normals (turned_body w.colours patches)) i;
        indices = (ap (λ (l : List Patch). flat_map (λ p. p.indices) l) q ∙ flat_covered_indices (turned_body w.colours patches)) i;
        work = cleared_covered rows work i;
      }

  -- covered rows are turned as the rows are
  rows_turned : (rows : List Row) → turn_rows (map cover_row rows) ≡ turn_rows rows
  rows_turned rows =
      let patches = patches_of rows ps ns is in
      ap (λ (l : List Patch). turn_body (map cover_row rows) l (walks_of l (joined (names rule ps))) work) (patches_covered rows ps ns is)
      ∙ ap (λ (w : Walks). turn_body (map cover_row rows) (map cover_patch patches) w work) (walks_seen cover_row (λ ns. ns) (λ r. refl) (λ r. refl) patches (joined (names rule ps)))
      ∙ patches_turned rows patches (walks_of patches (joined (names rule ps)))

  -- Two accepted bodies that agree with the bin column covered are turned alike: the same answer, and the same slices.
  pub turn_without_bins : (table other : List ℕ) → first_failing (body_checks table ps ns is (length work)) ≡ 0 → first_failing (body_checks other ps ns is (length work)) ≡ 0
      → covered_table table ≡ covered_table other → turn_of rule table ps ns is work ≡ turn_of rule other ps ns is work
  turn_without_bins table other a b e =
      accepted table a
      ∙ sym (rows_turned (rows_of table))
      ∙ ap turn_rows (sym (rows_covered table) ∙ ap rows_of e ∙ rows_covered other)
      ∙ rows_turned (rows_of other)
      ∙ sym (accepted other b)
