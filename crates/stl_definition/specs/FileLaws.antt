-- What the reader finds in a file of the writer's: its length, its count and its corners. Assumes nothing.
use Rattle.std.specs.Prelude.{◌≡◌, ℕ, zero, suc, ◌+◌, ◌*◌, ◌<◌, ◌≤◌, length, take, drop, replicate, Float}
use Rattle.std.proofs.Math.Path.{refl, sym, ap}
use Rattle.std.proofs.Common.{◌∙◌, arith, length-drop, take_at, drop_at, length-take-le}
use mathlib.Core.List.{List, [], ◌∷◌, ◌++◌, flat_map, append_assoc}
use Rattle.std.proofs.Math.ListN.{length-append}
use Rattle.lists.specs.Each.{each_both}
use Rattle.body_rows.specs.Body.{Triangle, triangles_of}
use Rattle.point_rules.specs.Points.{little_endian}
use Rattle.stl_definition.specs.Bytes.{floats_bytes, floats_of}
use Rattle.stl_definition.specs.File.{point_in, corners, corners_of, facet, file_of, file_length, triangle_count}
use Rattle.stl_definition.specs.Read.{count_of, facet_corners, file_corners}
use Rattle.stl_definition.specs.ByteLaws.{IsF32, EachF32, f32_at, number_word, floats_back, floats_length, read_f32s, read_length}

-- ---- a triangle

-- the corners of a triangle are read from its 50 bytes
pub facet_back : (xs : List Float) (rest : List ℕ) → EachF32 xs → length xs ≡ 9 → floats_of (take 36 (drop 12 (facet xs ++ rest))) ≡ xs
unfolding facet
facet_back xs rest f n =
    ap (λ (bs : List ℕ). floats_of (take 36 bs)) (append_assoc (floats_bytes xs) (replicate 2 0) rest)
    ∙ ap floats_of (take_at (floats_bytes xs) (replicate 2 0 ++ rest) 36 (let e = floats_length xs in omega arith))
    ∙ floats_back xs f

-- they are 50
pub facet_length : (xs : List Float) → length xs ≡ 9 → length (facet xs) ≡ 50
unfolding facet
facet_length xs n = let e = floats_length xs in omega (arith, length-append (floats_bytes xs) (replicate 2 0))

-- behind which stand those of the next
pub facet_rest : (xs : List Float) (rest : List ℕ) → length xs ≡ 9 → drop 50 (facet xs ++ rest) ≡ rest
facet_rest xs rest n = drop_at (facet xs) rest 50 (facet_length xs n)

-- ---- all triangles

-- three indices a triangle
pub triangles_third : (is : List ℕ) → length (triangles_of is) ≡ triangle_count is
unfolding triangles_of
triangles_third [] = refl
triangles_third (a ∷ []) = refl
triangles_third (a ∷ b ∷ []) = refl
triangles_third (a ∷ b ∷ c ∷ is) = let e = triangles_third is in omega arith

module _ (stride : ℕ) (vs : List Float) where
  -- a vertex of f32s
  point_f32 : EachF32 vs → (i : ℕ) → EachF32 (point_in stride vs i)
  point_f32 f i = (f32_at vs (stride * i) f, (f32_at vs (stride * i + 1) f, (f32_at vs (stride * i + 2) f, tt)))

  -- corners of f32s are f32s
  pub corners_f32 : EachF32 vs → (t : Triangle) → EachF32 (corners stride vs t)
  corners_f32 f t =
      let a = point_in stride vs t.a in
      let b = point_in stride vs t.b in
      each_both IsF32 (a ++ b) (point_in stride vs t.c) (each_both IsF32 a b (point_f32 f t.a) (point_f32 f t.b)) (point_f32 f t.c)

  -- the corners of triangles are read from their bytes
  pub facets_back : EachF32 vs → (ts : List Triangle) → facet_corners (length ts) (flat_map (λ t. facet (corners stride vs t)) ts) ≡ flat_map (corners stride vs) ts
  unfolding facet_corners flat_map
  facets_back f [] = refl
  facets_back f (t ∷ ts) =
      let rest = flat_map (λ t. facet (corners stride vs t)) ts in
      (λ i. facet_back (corners stride vs t) rest (corners_f32 f t) refl i ++ facet_corners (length ts) (facet_rest (corners stride vs t) rest refl i))
      ∙ ap (λ (xs : List Float). corners stride vs t ++ xs) (facets_back f ts)

  -- 50 bytes a triangle
  pub facets_length : (ts : List Triangle) → length (flat_map (λ t. facet (corners stride vs t)) ts) ≡ 50 * length ts
  unfolding flat_map
  facets_length [] = refl
  facets_length (t ∷ ts) =
      let e = facets_length ts in
      omega (arith, length-append (facet (corners stride vs t)) (flat_map (λ t. facet (corners stride vs t)) ts), facet_length (corners stride vs t) refl)

  -- behind the head of a file stand the triangles
  facets_behind : (is : List ℕ) → drop 84 (file_of stride vs is) ≡ flat_map (λ t. facet (corners stride vs t)) (triangles_of is)
  unfolding file_of little_endian
  facets_behind is = refl

  module _ (is : List ℕ) where
    -- a file is as long as it says
    pub file_length_lem : length (file_of stride vs is) ≡ file_length is
    unfolding file_of little_endian
    file_length_lem = omega (arith, facets_length (triangles_of is), triangles_third is)

    -- its count is that of the triangles
    pub file_count : triangle_count is < 4294967296 → count_of (file_of stride vs is) ≡ triangle_count is
    unfolding count_of file_of little_endian
    file_count h = number_word (triangle_count is) h

    -- The corners that are read from the file of a mesh are the mesh's, triangle by triangle.
    pub file_corners_lem : EachF32 vs → triangle_count is < 4294967296 → file_corners (file_of stride vs is) ≡ corners_of stride vs is
    unfolding file_corners corners_of
    file_corners_lem f h =
        (λ i. facet_corners ((file_count h ∙ sym (triangles_third is)) i) (facets_behind is i)) ∙ facets_back f (triangles_of is)

-- ---- what is read of any file

-- are f32s
pub facets_f32 : (n : ℕ) (bytes : List ℕ) → EachF32 (facet_corners n bytes)
unfolding facet_corners
facets_f32 zero bytes = tt
facets_f32 (suc n) bytes = each_both IsF32 (floats_of (take 36 (drop 12 bytes))) (facet_corners n (drop 50 bytes)) (read_f32s (take 36 (drop 12 bytes))) (facets_f32 n (drop 50 bytes))

-- nine to a triangle
pub facets_nine : (n : ℕ) (bytes : List ℕ) → 50 * n ≤ length bytes → length (facet_corners n bytes) ≡ 9 * n
unfolding facet_corners
facets_nine zero bytes h = refl
facets_nine (suc n) bytes h =
    let here = read_length (take 36 (drop 12 bytes)) 9 (length-take-le 36 (drop 12 bytes) (omega (arith, length-drop 12 bytes))) in
    let rest = facets_nine n (drop 50 bytes) (omega (arith, length-drop 50 bytes)) in
    omega (arith, length-append (floats_of (take 36 (drop 12 bytes))) (facet_corners n (drop 50 bytes)))
