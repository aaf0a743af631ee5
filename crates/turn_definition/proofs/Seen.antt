-- Walks look at a row's shell and vertex count, at positions and at indices: patches whose rows and normals are changed otherwise have the same. Assumes nothing.
use Rattle.std.specs.Prelude.{◌≡◌, Bool, true, false, ◌&&◌, ◌||◌, length, eqb, Float}
use Rattle.std.proofs.Math.Path.{refl, ap}
use Rattle.std.proofs.Common.{◌∙◌}
use Rattle.std.proofs.Math.Bool.{not, cond}
use mathlib.Core.List.{List, [], ◌∷◌, ◌++◌, map}
use Prim.Native.Nat.{ℕ, zero, suc, ◌+◌}
use Rattle.std.proofs.Math.ListN.{get_or, set, replicate}
use Rattle.std.proofs.lemmas.List.{length-map}
use Rattle.std.proofs.Math.Dec.{ltb}
use Rattle.std.specs.Float.Ieee.{lt}
use Rattle.lists.specs.Lists.{sum_of}
use Rattle.body_rows.specs.Body.{Row, Patch}
use Rattle.patch_geometry.specs.Geometry.{add, zero64}
use Rattle.patch_measures.specs.Volume.{patch_volume}
use Rattle.edge_uses.specs.Edges.{Use, uses_from}
use Rattle.edge_uses.specs.Seen.{seen, uses_seen}
use Rattle.turn_walk.specs.Walk.{Pair, unvisited, plain, coloured, Walk, walk, inverted}
use Rattle.turn_definition.specs.Pairs.{pairs_of}
use Rattle.turn_definition.specs.Groups.{Group, Walks, add_group, walks_from}
use Rattle.turn_definition.specs.Inversion.{patch_at, volume_from, indices_on, inverts}
use Rattle.turn_definition.specs.Orient.{walks_of}

module _ (f : Row → Row) (g : List Float → List Float) where
  -- the positions of row n's patch
  positions_seen : (patches : List Patch) (n : ℕ) → (patch_at (map (seen f g) patches) n).positions ≡ (patch_at patches n).positions
  unfolding patch_at
  positions_seen [] n = refl
  positions_seen (p ∷ ps) zero = refl
  positions_seen (p ∷ ps) (suc n) = positions_seen ps n

  -- and its indices
  indices_seen : (patches : List Patch) (n : ℕ) → (patch_at (map (seen f g) patches) n).indices ≡ (patch_at patches n).indices
  unfolding patch_at
  indices_seen [] n = refl
  indices_seen (p ∷ ps) zero = refl
  indices_seen (p ∷ ps) (suc n) = indices_seen ps n

  -- the volume of a group
  volume_seen : (patches : List Patch) (colours : List ℕ) (v : Float) (rows : List ℕ) → volume_from (map (seen f g) patches) colours v rows ≡ volume_from patches colours v rows
  unfolding volume_from
  volume_seen patches colours v [] = refl
  volume_seen patches colours v (n ∷ ns) =
      (λ i. volume_from (map (seen f g) patches) colours (add v (patch_volume (positions_seen patches n i) (indices_seen patches n i) (eqb (get_or colours n unvisited) coloured))) ns)
      ∙ volume_seen patches colours (add v (patch_volume (patch_at patches n).positions (patch_at patches n).indices (eqb (get_or colours n unvisited) coloured))) ns

  -- how many indices rows of a colour hold
  held_seen : (patches : List Patch) (colours : List ℕ) (c : ℕ) (rows : List ℕ) → indices_on (map (seen f g) patches) colours c rows ≡ indices_on patches colours c rows
  unfolding indices_on sum_of
  held_seen patches colours c [] = refl
  held_seen patches colours c (n ∷ ns) = λ i. cond (eqb (get_or colours n unvisited) c) (length (indices_seen patches n i)) 0 + held_seen patches colours c ns i

  -- whether a group is inverted
  inverts_seen : (patches : List Patch) (colours rows : List ℕ) (v : Float) → inverts (map (seen f g) patches) colours rows v ≡ inverts patches colours rows v
  unfolding inverts
  inverts_seen patches colours rows v = λ i. lt v zero64 || (not (lt zero64 v) && ltb (held_seen patches colours plain rows i) (held_seen patches colours coloured rows i))

  -- a group added to the walks
  group_seen : (patches : List Patch) (groups : List Group) (w : Walk) → add_group (map (seen f g) patches) groups w ≡ add_group patches groups w
  unfolding add_group
  group_seen patches groups w =
      let v = volume_seen patches w.colours zero64 w.rows in
      let b : inverts (map (seen f g) patches) w.colours w.rows (volume_from (map (seen f g) patches) w.colours zero64 w.rows)
      ≡ inverts patches w.colours w.rows (volume_from patches w.colours zero64 w.rows) =
      inverts_seen patches w.colours w.rows (volume_from (map (seen f g) patches) w.colours zero64 w.rows) ∙ ap (inverts patches w.colours w.rows) v in
      λ i. record {
        groups = groups ++ record { rows = w.rows; colours = map (λ n. get_or w.colours n unvisited) w.rows; volume = v i } ∷ [];
        colours = cond (b i) (inverted w.rows w.colours) w.colours;
        against = w.against;
      }

  -- the walks from a row on
  pub walks_from_seen : (patches : List Patch) (pairs : List Pair) (n : ℕ) (rest : List Patch) (s : Walks)
      → walks_from (map (seen f g) patches) pairs n (map (seen f g) rest) s ≡ walks_from patches pairs n rest s
  unfolding walks_from
  walks_from_seen patches pairs n [] s = refl
  walks_from_seen patches pairs n (p ∷ rest) s = go (eqb (length p.indices) 0 || not (eqb (get_or s.colours n unvisited) unvisited)) (walks_from_seen patches pairs (suc n) rest)
    where
      from : ℕ → Walk
      from m = walk pairs m 0 (record { rows = n ∷ []; colours = set s.colours n plain; against = s.against })

      go : (b : Bool) → ((t : Walks) → walks_from (map (seen f g) patches) pairs (suc n) (map (seen f g) rest) t ≡ walks_from patches pairs (suc n) rest t)
          → ◌≡◌ {A = Walks}
          (elim b [
            | true ↦ walks_from (map (seen f g) patches) pairs (suc n) (map (seen f g) rest) s
            | false ↦ walks_from (map (seen f g) patches) pairs (suc n) (map (seen f g) rest)
                (add_group (map (seen f g) patches) s.groups (from (length (map (seen f g) patches))))
          ])
          (elim b [ true ↦ walks_from patches pairs (suc n) rest s | false ↦ walks_from patches pairs (suc n) rest (add_group patches s.groups (from (length patches))) ])
      go true ih = ih s
      go false ih =
          ap (λ (m : ℕ). walks_from (map (seen f g) patches) pairs (suc n) (map (seen f g) rest) (add_group (map (seen f g) patches) s.groups (from m))) (length-map patches (seen f g))
          ∙ ap (λ (t : Walks). walks_from (map (seen f g) patches) pairs (suc n) (map (seen f g) rest) t) (group_seen patches s.groups (from (length patches)))
          ∙ ih (add_group patches s.groups (from (length patches)))

  module _ (shells : (r : Row) → (f r).shell ≡ r.shell) (counts : (r : Row) → (f r).vertices ≡ r.vertices) where
    -- The walks of a body are those of the body seen so.
    pub walks_seen : (patches : List Patch) (points : List ℕ) → walks_of (map (seen f g) patches) points ≡ walks_of patches points
    unfolding walks_of
    walks_seen patches points =
        let body = map (seen f g) patches in
        ap (λ (us : List Use). walks_from body (pairs_of us) 0 body (record { groups = []; colours = replicate (length body) unvisited; against = 0 }))
        (uses_seen f g (λ r. r.shell) shells counts 0 points patches)
        ∙ ap (λ (m : ℕ). walks_from body (pairs_of (uses_from (λ r. r.shell) 0 points patches)) 0 body (record { groups = []; colours = replicate m unvisited; against = 0 }))
        (length-map patches (seen f g))
        ∙ walks_from_seen patches (pairs_of (uses_from (λ r. r.shell) 0 points patches)) 0 patches (record { groups = []; colours = replicate (length patches) unvisited; against = 0 })
