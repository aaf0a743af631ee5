-- An accepted body turned. Assumes nothing.
use mathlib.Core.Path.{◌≡◌, sym, ap, ◌∙◌, subst}
use mathlib.Core.List.{List, ◌++◌, map}
use Prim.Native.Nat.{ℕ, ◌+◌, ◌*◌}
use native.Mathlib.Omega.{arith}
use lib.ListN.{length, take, drop, replicate, length-drop}
use lib.Seq.{length-take-le}
use lib.Dec.{eqb}
use lib.Ieee.{Float, neg}
use Rattle.body_rows.specs.Patches.{shapes}
use Rattle.lists.specs.Lists.{count_if}
use Rattle.point_rules.specs.Rule.{names}
use Rattle.point_rules.specs.Points.{key}
use Rattle.join_definition.specs.Join.{joined}
use Rattle.body_rows.specs.Body.{rows_of, patches_of, all_vertices, work_needed, cleared}
use Rattle.body_checks.specs.Cleared.{words_are, cleared_is}
use Rattle.body_rows.specs.Rows.{Total}
use Rattle.body_checks.specs.Accepted.{Passed, passed_rows}
use Rattle.turn_walk.specs.Walk.{coloured}
use Rattle.edge_uses.specs.Area.{AreaReady}
use Rattle.turn_definition.specs.Groups.{Walks}
use Rattle.turn_definition.specs.Orient.{walks_of, turn_body}
use Rattle.turn_definition.specs.Reversal.{swapped}
use Rattle.turn_reversal.specs.Reversed.{Reversible, Reversed, changed_rows, coordinates, index_count, normals_turned, indices_turned}
use Rattle.turn_accepted.proofs.Normals.{walks_any_normals}
use Rattle.turn_colouring.specs.Coloured.{Coloured}
use Rattle.turn_definition.specs.Answers.{left_done, turn_done}

module _ {table : List ℕ} {ps ns : List Float} {is : List ℕ} (W : List ℕ) {v m n : ℕ} (p : Passed table ps ns is (length W)) (ev : Total (all_vertices (rows_of table)) v)
    (em : m ≡ length (rows_of table)) (en : n ≡ length is) where
  needed : work_needed (rows_of table) ≡ 16 * length is + 16 * m + 4 * v
  needed = omega (arith, words_are W p ev em en)

  -- its rows can be coloured
  pub colourable : AreaReady table ps is W v m
  colourable =
      record {
        body =
            record {
              rows = passed_rows p;
              count = sym em;
              vertices = sym ev.is;
              few_vertices = omega (arith, ev.is, p.vertices);
              all_positions = p.all_positions ∙ ap (λ (k : ℕ). 3 * k) (sym ev.is);
              all_indices_lem = p.all_indices_lem;
              few_indices = p.indices;
              threes = p.threes;
              inside = p.inside;
              room = omega (arith, p.enough, needed);
            };
        enough = omega (arith, p.enough, needed);
      }

  -- its rows can be reversed by the colours
  pub reversible : {X : List ℕ} → length X ≡ length W → Reversible table ns is X (4 * v + 6 * m + 6 * n)
  reversible {X} l =
      record {
        rows = passed_rows p;
        threes = p.threes;
        vertices = p.vertices;
        indices = p.indices;
        all_normals = p.all_normals;
        all_indices_lem = p.all_indices_lem;
        room = omega (arith, p.enough, needed);
      }

  module _ {X Z : List ℕ} {ns' : List Float} {is' : List ℕ} {against turned : ℕ} (long : length X ≡ length W) (c : Coloured table ps is v m W X against)
      (r : Reversed (take (length (rows_of table)) (drop (4 * v + 6 * m + 6 * n) X)) table ns is ns' is' turned)
      (z : Z ≡ cleared (rows_of table) X) where
    -- the walks of the body
    abbrev walks : Walks
    walks = walks_of (patches_of (rows_of table) ps ns is) (joined (names key ps))

    same_walks : walks_of (shapes table ps is) (joined (names key ps)) ≡ walks
    same_walks = walks_any_normals (rows_of table) ps ns is (joined (names key ps))

    -- the colours that reversing went by
    colours_are : take (length (rows_of table)) (drop (4 * v + 6 * m + 6 * n) X) ≡ walks.colours
    colours_are =
        (λ i. take (sym em i) (drop (4 * v + 6 * m + 6 * en i) X)) ∙ c.colours ∙ ap (λ (s : Walks). s.colours) same_walks

    many : length walks.colours ≡ length (rows_of table)
    many =
        ap length (sym colours_are)
        ∙ length-take-le (length (rows_of table)) (drop (4 * v + 6 * m + 6 * n) X) (omega (arith, length-drop (4 * v + 6 * m + 6 * n) X, long, p.enough, needed))

    normals_are : ns' ≡ changed_rows (map neg) coordinates walks.colours (rows_of table) ns
    normals_are = r.normals ∙ ap (λ (cs : List ℕ). changed_rows (map neg) coordinates cs (rows_of table) ns) colours_are

    indices_are : is' ≡ changed_rows swapped index_count walks.colours (rows_of table) is
    indices_are = r.indices ∙ ap (λ (cs : List ℕ). changed_rows swapped index_count cs (rows_of table) is) colours_are

    work_is : Z ≡ cleared (rows_of table) W
    work_is = cleared_is W p X (subst (λ (k : ℕ). drop k X ≡ drop k W) (sym needed) c.rest) z

    -- the body is turned as the definition says
    pub accepted_turned : left_done (record { turned = turned; against = against }) ns' is' Z ≡ turn_done table ps ns is W
    unfolding turn_body
    accepted_turned =
        λ i. record {
          refusal = 0;
          turned = (r.count ∙ ap (count_if (eqb coloured)) colours_are) i;
          against = (c.total ∙ ap (λ (s : Walks). s.against) same_walks) i;
          normals = (normals_are ∙ sym (normals_turned walks.colours (rows_of table) ps ns is many (sym p.all_normals))) i;
          indices = (indices_are ∙ sym (indices_turned walks.colours (rows_of table) ps ns is many (sym p.all_indices_lem))) i;
          work = work_is i;
        }
