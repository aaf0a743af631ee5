-- Found points as pairs of words: edge and parameter in the higher word; the finding edge, the place by name and the vertex in the lower. Assumes nothing.
use Rattle.std.specs.Prelude.{cond, List, [], ◌∷◌, ℕ, suc, ◌+◌, ◌*◌, ◌/◌, ◌%◌, get_or, Float}
use Rattle.std.proofs.Math.Option.{Option, none}
use Rattle.lists.specs.Lists.{filter_map}
use Rattle.slice_pairs.specs.Pairs.{pair_of}
use Rattle.float_steps.specs.Floats.{f64, bits64}
use Rattle.patch_geometry.specs.Geometry.{point_at}
use Rattle.stitch_splits.specs.declared.sides.Sides.{Sides}
use Rattle.stitch_splits.specs.Entries.{Entry}
use Rattle.stitch_splits.specs.Filters.{map_option}
use Rattle.stitch_splits.specs.Found.{found_only, spot_of}

-- a loose vertex g at place j of the list by name, in one word
abbrev pub ranked_at : ℕ → ℕ → ℕ
ranked_at j g = 262144 * j + g

-- the loose vertices of a list that begins at place j
unfoldable pub ranked_from : ℕ → List ℕ → List ℕ
ranked_from j [] = []
ranked_from j (g ∷ gs) = ranked_at j g ∷ ranked_from (suc j) gs

-- edge and parameter in one word: a parameter is above 0 and below 1, so that its bits are below 2 ^ 62 and rise with it
abbrev pub place_key : ℕ → Float → ℕ
place_key e t = 4611686018427387904 * e + bits64 t

-- the finding edge, the place by name and the vertex in one word
abbrev pub found_word : ℕ → ℕ → ℕ
found_word e o = 274877906944 * e + o

-- the pair of a vertex that is found on edge e and placed
unfoldable pub found_pair : Float → List Float → List ℕ → Sides → ℕ → ℕ → Option ℕ
found_pair sag ps ns s e o =
    cond (found_only sag s e (get_or ns (o % 262144) 0) (point_at ps (o % 262144))) (map_option (λ p. pair_of (place_key p.e p.t) (found_word e o)) (spot_of s (point_at ps (o % 262144)))) none

-- the pairs of the vertices of a list
unfoldable pub found_pairs : Float → List Float → List ℕ → Sides → ℕ → List ℕ → List ℕ
found_pairs sag ps ns s e os = filter_map (found_pair sag ps ns s e) os

-- the entry of a pair
abbrev pub entry_of_pair : ℕ → Entry
entry_of_pair x = record {
  e = x / 18446744073709551616 / 4611686018427387904;
  t = f64 (x / 18446744073709551616 % 4611686018427387904);
  vertex = x % 262144;
}
