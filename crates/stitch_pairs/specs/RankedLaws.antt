-- What is found of loose vertices in any order is what is found of them by name. Assumes nothing.
use Rattle.std.specs.Prelude.{◌≡◌, refl, Bool, cond, List, [], ◌∷◌, ℕ, suc, ◌+◌, ◌*◌, ◌%◌, ◌<◌, length, get_or, Float}
use Rattle.std.proofs.Common.{ap, ◌∙◌, arith}
use Rattle.lists.specs.Lists.{count_if}
use Rattle.slice_pairs.specs.Rearranged.{Rearranged, same_filter_map}
use Rattle.patch_geometry.specs.Geometry.{point_at}
use Rattle.stitch_splits.specs.declared.sides.Sides.{Sides}
use Rattle.stitch_splits.specs.Found.{found_only, found_count}
use Rattle.stitch_pairs.specs.FoundPairs.{ranked_from, found_pair, found_pairs}

-- a test of the vertex passes as many
ranked_count : (p : ℕ → Bool) (j : ℕ) (gs : List ℕ) → ((i : ℕ) → i < length gs → get_or gs i 0 < 262144) → count_if (λ o. p (o % 262144)) (ranked_from j gs) ≡ count_if p gs
unfolding count_if ranked_from
ranked_count p j [] l = refl
ranked_count p j (g ∷ gs) l =
    let h : g < 262144 = l 0 (omega arith) in
    let v : (262144 * j + g) % 262144 ≡ g = omega arith in
    ap (λ (k : ℕ). let n = count_if (λ o. p (o % 262144)) (ranked_from (suc j) gs) in cond (p k) (suc n) n) v
    ∙ ap (λ (n : ℕ). cond (p g) (suc n) n) (ranked_count p (suc j) gs (λ i h. l (suc i) (omega arith)))

module _ (sag : Float) (ps : List Float) (ns : List ℕ) (s : Sides) (e : ℕ) (os gs : List ℕ) (r : Rearranged os (ranked_from 0 gs)) where
  -- As many are found.
  pub found_same : ((j : ℕ) → j < length gs → get_or gs j 0 < 262144) → count_if (λ o. found_only sag s e (get_or ns (o % 262144) 0) (point_at ps (o % 262144))) os ≡ found_count sag ps ns s e gs
  unfolding found_count
  found_same l =
      r.same (λ o. found_only sag s e (get_or ns (o % 262144) 0) (point_at ps (o % 262144)))
      ∙ ranked_count (λ g. found_only sag s e (get_or ns g 0) (point_at ps g)) 0 gs l

  -- Their pairs are the same.
  pub pairs_same : Rearranged (found_pairs sag ps ns s e os) (found_pairs sag ps ns s e (ranked_from 0 gs))
  unfolding found_pairs
  pairs_same = same_filter_map (found_pair sag ps ns s e) r
