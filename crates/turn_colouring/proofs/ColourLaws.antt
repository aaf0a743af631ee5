-- The colours of a whole body. Assumes nothing.
use mathlib.Core.Path.{◌≡◌, sym, ap, ◌∙◌, subst}
use mathlib.Core.List.{List}
use Prim.Native.Nat.{ℕ, ◌+◌, ◌-◌, ◌*◌, ◌≤◌}
use native.Mathlib.Omega.{arith}
use lib.ListN.{length, take, drop}
use lib.Ieee.{Float}
use borrow.Rule.Slice.PartMut.{mid_of, put_mid, mid_len}
use Rattle.body_rows.specs.Patches.{shapes}
use Rattle.lists.specs.Stretches.{part_stretch, part_rest, rest_less}
use Rattle.point_rules.specs.Rule.{names}
use Rattle.point_rules.specs.Points.{key}
use Rattle.join_definition.specs.Join.{joined}
use Rattle.turn_walk.specs.Uses.{pairs_by}
use Rattle.turn_walk.specs.Area.{uses_of, Sound}
use Rattle.turn_walk.specs.Links.{uses_front, sound_kept}
use Rattle.edge_uses.specs.Area.{uses_end, AreaReady}
use Rattle.turn_pairs.specs.Laid.{uses_at, Laid}
use Rattle.turn_definition.specs.Groups.{Walks}
use Rattle.turn_definition.specs.Orient.{walks_of}
use Rattle.turn_groups.specs.Walked.{walks_over, Walkable, GroupsWalked}
use Rattle.turn_colouring.specs.Coloured.{Coloured}

module _ {table : List ℕ} {ps : List Float} {is W : List ℕ} {v m n at end : ℕ} (g : AreaReady table ps is W v m) (en : n ≡ length is) (ea : at ≡ 4 * v + 4 * m + n)
    (ee : end ≡ at + 5 * n + 5 * m) {X : List ℕ} (d : Laid table ps is v m W X) (long : length X ≡ length W) where
  -- the part that is lent holds the uses
  abbrev Part : List ℕ
  Part = mid_of at (end - at) X

  size : end - at ≡ 5 * n + 5 * m
  size = omega arith

  fits : end ≤ length X
  fits = omega (arith, g.enough)

  place : uses_at v m (length is) ≡ at
  place = omega arith

  uses_there : uses_of n Part ≡ uses_of n (drop at X)
  uses_there = uses_front n (end - at) (drop at X) (omega arith)

  sound_there : Sound n m Part
  sound_there =
      sound_kept {n = n} {m = m} {W = drop at X} {E = Part}
      (subst (λ (k : ℕ). Sound k m (drop at X)) (sym en) (subst (λ (k : ℕ). Sound (length is) m (drop k X)) place d.sound)) uses_there

  -- the groups can be walked there
  pub part_walkable : Walkable table ps is Part n m
  part_walkable =
      let b = g.body in
      record {
        rows = b.rows;
        count = b.count;
        all_positions = b.all_positions ∙ ap (λ (k : ℕ). 3 * k) (sym b.vertices);
        all_indices_lem = b.all_indices_lem;
        indices_few = b.few_indices;
        uses_few = omega (arith, b.all_indices_lem, b.few_indices);
        inside = b.inside;
        room = omega (arith, mid_len at end X fits, size);
        sound = sound_there;
      }

  -- the pairs there are the definition's
  pairs_there : pairs_by (uses_of n Part) ≡ pairs_by (uses_of (length is) (drop (uses_at v m (length is)) X))
  pairs_there = ap pairs_by uses_there ∙ (λ i. pairs_by (uses_of (en i) (drop (sym place i) X)))

  walks_there : walks_over (shapes table ps is) (pairs_by (uses_of n Part)) ≡ walks_of (shapes table ps is) (joined (names key ps))
  unfolding walks_of
  walks_there = ap (walks_over (shapes table ps is)) (pairs_there ∙ d.pairs)

  -- the rows are coloured
  pub rows_coloured : {ys : List ℕ} {against : ℕ} → GroupsWalked table ps is n m Part ys against → length ys ≡ length Part → Coloured table ps is v m W (put_mid at (end - at) X ys) against
  rows_coloured {ys} {against} w l =
      let e : at + (5 * n + 2 * m) ≡ 4 * v + 6 * m + 6 * length is = omega arith in
      record {
        colours =
            ap (λ (k : ℕ). take m (drop k (put_mid at (end - at) X ys))) (sym e)
            ∙ part_stretch at end X ys (omega arith) fits l (5 * n + 2 * m) m (omega arith)
            ∙ w.colours
            ∙ ap (λ (s : Walks). s.colours) walks_there;
        total = w.total ∙ ap (λ (s : Walks). s.against) walks_there;
        rest =
            rest_less end (16 * length is + 16 * m + 4 * v) X (put_mid at (end - at) X ys) (part_rest at end X ys (omega arith) fits l) (omega arith)
            ∙ rest_less (uses_end v m (length is)) (16 * length is + 16 * m + 4 * v) W X d.rest (omega arith);
      }
