-- Laws of the stages: vertices joined, and then rows. Assumes nothing.
use mathlib.Core.Path.{◌≡◌, ◌∙◌, subst}
use mathlib.Core.List.{List}
use Prim.Native.Nat.{ℕ, ◌+◌, ◌*◌}
use native.Mathlib.Omega.{arith}
use lib.ListN.{length, take, drop}
use lib.Ieee.{Float}
use Rattle.lists.specs.Stretches.{rest_less, stretch_kept}
use Rattle.body_rows.specs.Body.{rows_of}
use Rattle.join_points.specs.declared.vertices.Rule.TheVariants.{Key}
use Rattle.join_definition.specs.Join.{joined}
use Rattle.join_points.specs.Rules.{rule_of, Fit, JoinedPoints}
use Rattle.turn_pairs.specs.Laid.{shells_of, ShellsReady, ShellsJoined, Joinable, BodyJoined}

-- ---- vertices and rows

module _ {table : List ℕ} {ps : List Float} {v m : ℕ} {W : List ℕ} (g : Joinable table ps v m W) where
  -- the vertices have room
  pub points_fit : Fit v ps W
  points_fit = record { whole = g.all; room = omega (arith, g.room); few = omega (arith, g.few) }

  -- so have the rows
  pub shells_ready : {X : List ℕ} → length X ≡ length W → ShellsReady table X (4 * v)
  shells_ready l = record { rows = g.rows; room = omega (arith, g.room, g.count) }

  -- both are joined
  pub body_joined : {X E : List ℕ} → JoinedPoints Key ps v W X → ShellsJoined table (4 * v) X E → BodyJoined table ps v m W E
  unfolding rule_of
  body_joined {X} {E} p s =
      record {
        points = stretch_kept v v (4 * v) X E s.front (omega arith) ∙ p.reps;
        shells = subst (λ (k : ℕ). take k (drop (4 * v + k) E) ≡ joined (shells_of (rows_of table))) g.count s.firsts;
        rest =
            subst (λ (k : ℕ). drop (4 * v + 4 * k) E ≡ drop (4 * v + 4 * k) X) g.count s.rest
            ∙ rest_less (4 * v) (4 * v + 4 * m) W X p.rest (omega arith);
      }
