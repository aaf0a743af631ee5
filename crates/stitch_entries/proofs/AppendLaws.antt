-- A pair appended by a word in each stretch. Assumes nothing.
use mathlib.Core.Path.{◌≡◌, ap, ◌∙◌}
use mathlib.Core.List.{List, [], ◌∷◌, ◌++◌}
use Prim.Native.Nat.{ℕ, ◌+◌, ◌*◌}
use native.Mathlib.Omega.{arith}
use lib.ListN.{length, get_or, take, set, length-set}
use lib.Seq.{get_or-set_same, get_or-set_other, take-set-le, drop-set-lt}
use lib.Ieee.{Float}
use Rattle.float_steps.specs.Floats.{bits64}
use Rattle.lists.specs.Stretches.{stretch_kept}
use Rattle.slice_pairs.specs.Pairs.{pair_of, pair_at, pairs_in, pairs_more, pairs_kept}
use Rattle.stitch_pairs.specs.FoundPairs.{place_key}
use Rattle.stitch_pairs.specs.Words.{PairRoom, PairAppended}

module _ {at ts count e : ℕ} {t : Float} {W : List ℕ} (r : PairRoom at ts count e t W) {b : ℕ} (k : b ≡ bits64 t) (x : ℕ) where
  -- the work area after each store
  abbrev A : List ℕ
  A = set W (at + count) x

  abbrev F : List ℕ
  F = set A (ts + count) (e * 4611686018427387904 + b)

  a_long : length A ≡ length W
  a_long = length-set W (at + count) x

  f_long : length F ≡ length W
  f_long = length-set A (ts + count) (e * 4611686018427387904 + b) ∙ a_long

  -- the pairs before are as they were
  before : pairs_in F at ts count ≡ pairs_in W at ts count
  before =
      pairs_kept W F at ts count
      (stretch_kept at count (at + count) W F
      (take-set-le (at + count) A (ts + count) (e * 4611686018427387904 + b) (omega (arith, r.apart)) ∙ take-set-le (at + count) W (at + count) x (omega arith))
      (omega arith))
      (stretch_kept ts count (ts + count) A F (take-set-le (ts + count) A (ts + count) (e * 4611686018427387904 + b) (omega arith)) (omega arith)
      ∙ ap (take count) (drop-set-lt ts W (at + count) x r.apart))

  -- the new one
  new : pair_at F at ts count ≡ pair_of (place_key e t) x
  new =
      let key : e * 4611686018427387904 + b ≡ place_key e t = omega arith in
      ap (λ (v : ℕ). pair_of v (get_or F (at + count) 0)) (get_or-set_same A (ts + count) (e * 4611686018427387904 + b) 0 (omega (arith, r.room, a_long)) ∙ key)
      ∙ ap (pair_of (place_key e t))
      (get_or-set_other A (ts + count) (at + count) (e * 4611686018427387904 + b) 0 (λ z. omega (arith, r.apart))
      ∙ get_or-set_same W (at + count) x 0 (omega (arith, r.apart, r.room)))

  pub pair_appended : PairAppended at ts count e t x W F
  pair_appended =
      record {
        pairs =
            pairs_more F at ts count (omega (arith, r.apart, r.room, f_long)) (omega (arith, r.room, f_long))
            ∙ ap (λ (v : List ℕ). v ++ pair_at F at ts count ∷ []) before
            ∙ ap (λ (v : ℕ). pairs_in W at ts count ++ v ∷ []) new;
        front = take-set-le at A (ts + count) (e * 4611686018427387904 + b) (omega (arith, r.apart)) ∙ take-set-le at W (at + count) x (omega arith);
        rest =
            drop-set-lt (ts + count + 1) A (ts + count) (e * 4611686018427387904 + b) (omega arith)
            ∙ drop-set-lt (ts + count + 1) W (at + count) x (omega (arith, r.apart));
      }
