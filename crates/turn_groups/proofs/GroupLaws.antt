-- Laws of settling a group: what walking and inverting leave of a body's measures, and the group's colours. Assumes nothing.
use mathlib.Core.Path.{◌≡◌, sym, ap, ◌∙◌}
use mathlib.Core.Bool.{Bool, true, false, cond}
use mathlib.Core.List.{List}
use Prim.Native.Nat.{ℕ, ◌+◌, ◌*◌}
use native.Mathlib.Omega.{arith}
use lib.ListN.{length, drop}
use lib.Ieee.{Float}
use Rattle.body_rows.specs.Patches.{shapes}
use Rattle.lists.specs.Stretches.{rest_at}
use Rattle.patch_geometry.specs.Geometry.{zero64}
use Rattle.turn_walk.specs.Walk.{inverted}
use Rattle.turn_walk.specs.Area.{colours_at, area_end}
use Rattle.turn_walk.specs.Frames.{within_none, within_more, within_wide}
use Rattle.turn_walk.specs.Group.{queue_of, colours_of, GroupWalked, GroupInverted, walk_from}
use Rattle.turn_definition.specs.Inversion.{volume_from, inverts}
use Rattle.turn_definition.specs.Groups.{add_group}
use Rattle.turn_inversion.specs.Measured.{vertex_bases_at, index_bases_at, Measurable}
use Rattle.turn_groups.specs.Settled.{Judgeable, Judged, Settleable, Settled}

-- what measuring asks is kept
pub measurable_kept : {table : List ℕ} {ps : List Float} {is W E : List ℕ} {n m : ℕ} → Measurable table ps is W n m → drop (5 * n + 3 * m) E ≡ drop (5 * n + 3 * m) W → length E ≡ length W
    → Measurable table ps is E n m
measurable_kept {table} {ps} {is} {W} {E} {n} {m} g e l =
    record {
      rows = g.rows;
      count = g.count;
      all_positions = g.all_positions;
      all_indices_lem = g.all_indices_lem;
      indices_few = g.indices_few;
      inside = g.inside;
      room = omega (arith, g.room);
      vertex_bases = λ k h. rest_at (5 * n + 3 * m) (vertex_bases_at n m + k) W E 0 e (omega arith) ∙ g.vertex_bases k h;
      index_bases = λ k h. rest_at (5 * n + 3 * m) (index_bases_at n m + k) W E 0 e (omega arith) ∙ g.index_bases k h;
    }

module _ {table : List ℕ} {ps : List Float} {is W : List ℕ} {n m t : ℕ} {b : Bool} (j : Judgeable table ps is W n m t)
    (e : b ≡ inverts (shapes table ps is) (colours_of n m W) (queue_of n m t W) (volume_from (shapes table ps is) (colours_of n m W) zero64 (queue_of n m t W))) where
  pub judged_yes : {E : List ℕ} → b ≡ true → GroupInverted n m t W E → Judged table ps is n m t W E
  judged_yes {E} h i =
      record {
        colours = i.colours ∙ ap (λ x. cond x (inverted (queue_of n m t W) (colours_of n m W)) (colours_of n m W)) (sym h ∙ e);
        known = i.known;
        within = i.within;
      }

  pub judged_no : b ≡ false → Judged table ps is n m t W W
  judged_no h =
      record {
        colours = ap (λ x. cond x (inverted (queue_of n m t W) (colours_of n m W)) (colours_of n m W)) (sym h ∙ e);
        known = j.known;
        within = within_none (colours_at n m) (area_end n m) W;
      }

module _ {table : List ℕ} {ps : List Float} {is W X : List ℕ} {n m root a found against : ℕ} (s : Settleable table ps is W n m root a) (g : GroupWalked n m root a found against W X) where
  pub walked_judgeable : length X ≡ length W → Judgeable table ps is X n m found
  walked_judgeable l = record { group = record { given = measurable_kept s.given g.within.rest l; queue = g.queue }; known = g.known }

  pub settled : {E : List ℕ} → Judged table ps is n m found X E → Settled table ps is n m root a W E against
  unfolding add_group
  settled {E} j =
      record {
        colours =
            j.colours
            ∙ ap (λ q. cond (inverts (shapes table ps is) (colours_of n m X) q (volume_from (shapes table ps is) (colours_of n m X) zero64 q)) (inverted q (colours_of n m X)) (colours_of n m X)) g.rows
            ∙ ap (λ c. cond (inverts (shapes table ps is) c (walk_from n m root a W).rows (volume_from (shapes table ps is) c zero64 (walk_from n m root a W).rows))
            (inverted (walk_from n m root a W).rows c) c) g.colours;
        total = g.total;
        known = j.known;
        few = g.few;
        within = within_more g.within (within_wide (omega arith) (omega arith) j.within);
      }
