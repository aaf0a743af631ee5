-- A mesh whose vertices are its corners in turn, and meshes with the same corners. Assumes nothing.
use Rattle.std.specs.Prelude.{◌≡◌, ℕ, zero, suc, ◌+◌, ◌*◌, ◌≤◌, get_or, take, drop, Float}
use Rattle.std.proofs.Math.Path.{refl, sym}
use Rattle.std.proofs.Common.{ap, ◌∙◌, add-zero, arith, drop_of_length-le, drop-cons}
use mathlib.Core.List.{List, [], ◌∷◌, ◌++◌, flat_map}
use Rattle.std.proofs.Math.ListN.{length, replicate}
use Rattle.std.specs.Float.{nan}
use Rattle.body_rows.specs.Body.{Triangle, triangles_of}
use Rattle.stl_definition.specs.Bytes.{word}
use Rattle.stl_definition.specs.File.{header_bytes, point_in, corners, corners_of, facet, file_of, triangle_count}
use Rattle.stl_definition.specs.Read.{numbers_from}
use Rattle.stl_definition.specs.FileLaws.{triangles_third}

-- ---- corners in turn

-- the floats from vertex i on begin with its three
pub point_drop : (xs : List Float) (i : ℕ) → 3 * i + 3 ≤ length xs → drop (3 * i) xs ≡ point_in 3 xs i ++ drop (3 * suc i) xs
point_drop xs i h =
    drop-cons xs (3 * i) nan (omega arith)
    ∙ ap (λ (l : List Float). get_or xs (3 * i) nan ∷ l) (ap (λ (k : ℕ). drop k xs) e1 ∙ drop-cons xs (3 * i + 1) nan (omega arith))
    ∙ ap (λ (l : List Float). get_or xs (3 * i) nan ∷ get_or xs (3 * i + 1) nan ∷ l)
    (ap (λ (k : ℕ). drop k xs) e2 ∙ drop-cons xs (3 * i + 2) nan (omega arith) ∙ ap (λ (k : ℕ). get_or xs (3 * i + 2) nan ∷ drop k xs) e3)
  where
    e1 : suc (3 * i) ≡ 3 * i + 1
    e1 = omega arith

    e2 : suc (3 * i + 1) ≡ 3 * i + 2
    e2 = omega arith

    e3 : suc (3 * i + 2) ≡ 3 * suc i
    e3 = omega arith

-- the triangle of vertices i, i + 1 and i + 2
abbrev in_turn : ℕ → Triangle
in_turn i = record { a = i; b = suc i; c = suc (suc i) }

-- the floats from vertex i on begin with that triangle's corners
corners_drop : (xs : List Float) (i : ℕ) → 3 * i + 9 ≤ length xs → drop (3 * i) xs ≡ corners 3 xs (in_turn i) ++ drop (3 * suc (suc (suc i))) xs
corners_drop xs i h =
    point_drop xs i (omega arith)
    ∙ ap (λ (l : List Float). point_in 3 xs i ++ l)
    (point_drop xs (suc i) (omega arith) ∙ ap (λ (l : List Float). point_in 3 xs (suc i) ++ l) (point_drop xs (suc (suc i)) (omega arith)))

-- from vertex i on: the corners of n triangles in turn are the rest of the floats
corners_from : (xs : List Float) (n i : ℕ) → length xs ≡ 3 * i + 9 * n → flat_map (corners 3 xs) (triangles_of (numbers_from i (3 * n))) ≡ drop (3 * i) xs
unfolding flat_map triangles_of numbers_from
corners_from xs zero i h = let k : length xs ≤ 3 * i = omega arith in sym (drop_of_length-le xs k)
corners_from xs (suc n) i h =
    ap (λ (k : ℕ). flat_map (corners 3 xs) (triangles_of (numbers_from i k))) more
    ∙ ap (λ (l : List Float). corners 3 xs (in_turn i) ++ l) (corners_from xs n (suc (suc (suc i))) (omega arith))
    ∙ sym (corners_drop xs i (omega arith))
  where
    more : 3 * suc n ≡ suc (suc (suc (3 * n)))
    more = omega arith

-- The corners of a mesh whose vertices are three to a triangle, its indices in turn, are its positions.
pub corners_again : (xs : List Float) (n : ℕ) → length xs ≡ 9 * n → corners_of 3 xs (numbers_from 0 (3 * n)) ≡ xs
unfolding corners_of
corners_again xs n h = corners_from xs n 0 (omega arith)

-- so many numbers
pub numbers_length : (k n : ℕ) → length (numbers_from k n) ≡ n
unfolding numbers_from
numbers_length k zero = refl
numbers_length k (suc n) = ap suc (numbers_length (suc k) n)

-- one number more
pub numbers_more : (m k : ℕ) → numbers_from m (k + 1) ≡ numbers_from m k ++ (m + k) ∷ []
unfolding numbers_from
numbers_more m zero = ap (λ (n : ℕ). n ∷ []) (sym (add-zero m))
numbers_more m (suc k) =
    ap (numbers_from m) one
    ∙ ap (λ (l : List ℕ). m ∷ l) (numbers_more (suc m) k ∙ ap (λ (n : ℕ). numbers_from (suc m) k ++ n ∷ []) over)
  where
    one : suc k + 1 ≡ suc (k + 1)
    one = omega arith

    over : suc m + k ≡ m + suc k
    over = omega arith

-- ---- meshes with the same corners

module _ (s u : ℕ) (vs ws : List Float) where
  -- triangles with the same corners have the same bytes
  same_facets : (ts us : List Triangle) → length ts ≡ length us → flat_map (corners s vs) ts ≡ flat_map (corners u ws) us
      → flat_map (λ t. facet (corners s vs t)) ts ≡ flat_map (λ t. facet (corners u ws t)) us
  unfolding flat_map
  same_facets [] [] n e = refl
  same_facets [] (y ∷ us) n e = absurd (omega arith)
  same_facets (t ∷ ts) [] n e = absurd (omega arith)
  same_facets (t ∷ ts) (y ∷ us) n e = λ i. facet (take 9 (e i)) ++ same_facets ts us (omega arith) (ap (drop 9) e) i

  -- A mesh's file hangs on its corners alone.
  pub same_file : (is js : List ℕ) → triangle_count is ≡ triangle_count js → corners_of s vs is ≡ corners_of u ws js → file_of s vs is ≡ file_of u ws js
  unfolding corners_of file_of
  same_file is js n e =
      let m : length (triangles_of is) ≡ length (triangles_of js) = triangles_third is ∙ n ∙ sym (triangles_third js) in
      λ i. replicate header_bytes 0 ++ word (n i) ++ same_facets (triangles_of is) (triangles_of js) m e i
