-- Laws of whether a group's colours are inverted. Assumes nothing.
use mathlib.Core.Path.{◌≡◌, refl, sym, ap, ◌∙◌, subst}
use mathlib.Core.Bool.{true, false, cond}
use mathlib.Core.List.{List, [], ◌∷◌}
use Prim.Native.Nat.{ℕ, suc, ◌+◌, ◌*◌, ◌<◌}
use native.Mathlib.Omega.{arith}
use lib.ListN.{length, get_or, drop, length-take}
use lib.Seq.{get_or-take, get_or-drop}
use lib.Dec.{eqb, ltb}
use lib.Ieee.{Float, lt}
use Rattle.body_rows.specs.Patches.{shapes}
use Rattle.lists.specs.Lists.{sum_of}
use Rattle.body_rows.specs.Body.{Patch}
use Rattle.patch_geometry.specs.Geometry.{zero64}
use Rattle.turn_walk.specs.Walk.{unvisited, plain, coloured}
use Rattle.turn_walk.specs.Group.{queue_of, colours_of}
use Rattle.turn_definition.specs.Inversion.{patch_at, indices_on, inverts}
use Rattle.turn_inversion.specs.Measured.{GroupMeasurable, weight_of}
use Rattle.turn_inversion.specs.RowPatch.{patch_length}

-- two sums whose terms agree, item by item
sum_agree : (f g : ℕ → ℕ) (xs : List ℕ) → ((k : ℕ) → k < length xs → f (get_or xs k 0) ≡ g (get_or xs k 0)) → sum_of f xs ≡ sum_of g xs
unfolding sum_of
sum_agree f g [] h = refl
sum_agree f g (x ∷ xs) h =
    ap (λ n. n + sum_of f xs) (h 0 (omega arith)) ∙ ap (λ n. g x + n) (sum_agree f g xs (λ k l. h (suc k) (omega arith)))

-- the indices that the rows of a colour hold are their weights
pub indices_on_is : {table : List ℕ} {ps : List Float} {is W : List ℕ} {n m t : ℕ} → GroupMeasurable table ps is W n m t → (c : ℕ)
    → sum_of (weight_of table (colours_of n m W) c) (queue_of n m t W) ≡ indices_on (shapes table ps is) (colours_of n m W) c (queue_of n m t W)
unfolding indices_on
indices_on_is {table} {ps} {is} {W} {n} {m} {t} g c =
    sum_agree (weight_of table (colours_of n m W) c) (λ x. cond (eqb (get_or (colours_of n m W) x unvisited) c) (length (patch_at (shapes table ps is) x).indices) 0) (queue_of n m t W)
    (λ k l.
    let h : k < t = omega (arith, length-take t (drop (5 * n + m) W)) in
    let e : get_or (queue_of n m t W) k 0 ≡ get_or W (5 * n + m + k) 0 = get_or-take t (drop (5 * n + m) W) k 0 h ∙ get_or-drop (5 * n + m) W k 0 in
    let low : get_or (queue_of n m t W) k 0 < m = subst (λ x. x < m) (sym e) (g.queue.rows k h) in
    ap (λ s. cond (eqb (get_or (colours_of n m W) (get_or (queue_of n m t W) k 0) unvisited) c) s 0) (sym (patch_length (record { given = g.given; row = low }))))

-- the tests of the code
module _ (patches : List Patch) (colours queue : List ℕ) {v u : Float} (e : v ≡ u) where
  pub inverts_below : lt v zero64 ≡ true → true ≡ inverts patches colours queue u
  unfolding inverts
  inverts_below h = rw (sym e, h)

  pub inverts_above : lt v zero64 ≡ false → lt zero64 v ≡ true → false ≡ inverts patches colours queue u
  unfolding inverts
  inverts_above h k = rw (sym e, h, k)

  pub inverts_zero : {a b : ℕ} → lt v zero64 ≡ false → lt zero64 v ≡ false → a ≡ indices_on patches colours plain queue → b ≡ indices_on patches colours coloured queue
      → ltb a b ≡ inverts patches colours queue u
  unfolding inverts
  inverts_zero {a} {b} h k ea eb = rw (sym e, h, k, ea, eb)
