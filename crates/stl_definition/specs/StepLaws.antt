-- For code that goes through the triangles one by one: the file so far, the corners so far, and a word by its four bytes. Assumes nothing.
use Rattle.std.specs.Prelude.{◌≡◌, length, get_or, take, drop, replicate, Float}
use Rattle.std.proofs.Math.Path.{refl, ap}
use Rattle.std.proofs.Common.{sym, ◌∙◌, add-one, take-suc, take_all, drop-cons, drop-drop}
use mathlib.Core.List.{List, [], ◌∷◌, ◌++◌, flat_map, append_assoc, append-nil}
use Prim.Native.Nat.{ℕ, zero, suc, ◌+◌, ◌*◌, ◌<◌, ◌≤◌}
use native.Mathlib.Omega.{arith}
use Rattle.std.proofs.Math.Seq.{length-take-le}
use Rattle.float_steps.specs.Floats.{f32}
use Rattle.body_rows.specs.Body.{Triangle, triangles_of}
use Rattle.body_refusals.specs.BodyChecks.{lone_table, lone_checks}
use Rattle.stl_definition.specs.Bytes.{word, number, floats_of}
use Rattle.stl_definition.specs.File.{header_bytes, head_bytes, facet_bytes, normal_bytes, corner_bytes, triangle_count, corners, facet, file_of}
use Rattle.stl_definition.specs.Write.{in_two, mesh_checks}
use Rattle.stl_definition.specs.Read.{count_of, facet_corners}
use Rattle.stl_definition.specs.FileLaws.{triangles_third, facets_length}

-- ---- the writer

-- a mesh in two slices is checked as a patch alone
pub two_alone : (ps ns : List Float) (is : List ℕ) → mesh_checks (in_two ps ns) is ≡ lone_checks ps ns is
unfolding mesh_checks lone_checks lone_table
two_alone ps ns is = refl

-- triangle t of some indices
abbrev pub triangle_at : List ℕ → ℕ → Triangle
triangle_at is t = record { a = get_or is (3 * t) 0; b = get_or is (3 * t + 1) 0; c = get_or is (3 * t + 2) 0 }

-- is the t-th
pub triangle_at_lem : (is : List ℕ) (t : ℕ) (none : Triangle) → t < triangle_count is → get_or (triangles_of is) t none ≡ triangle_at is t
unfolding triangles_of
triangle_at_lem [] t none h = absurd (omega arith)
triangle_at_lem (a ∷ []) t none h = absurd (omega arith)
triangle_at_lem (a ∷ b ∷ []) t none h = absurd (omega arith)
triangle_at_lem (a ∷ b ∷ c ∷ is) zero none h = refl
triangle_at_lem (a ∷ b ∷ c ∷ is) (suc t) none h =
    triangle_at_lem is t none (omega arith)
    ∙ (λ j. record { a = get_or (a ∷ b ∷ c ∷ is) (e0 j) 0; b = get_or (a ∷ b ∷ c ∷ is) (e1 j) 0; c = get_or (a ∷ b ∷ c ∷ is) (e2 j) 0 })
  where
    e0 : suc (suc (suc (3 * t))) ≡ 3 * suc t
    e0 = omega arith

    e1 : suc (suc (suc (3 * t + 1))) ≡ 3 * suc t + 1
    e1 = omega arith

    e2 : suc (suc (suc (3 * t + 2))) ≡ 3 * suc t + 2
    e2 = omega arith

-- lists end to end, and one more
flat_more : (f : Triangle → List ℕ) (ts : List Triangle) (t : Triangle) → flat_map f (ts ++ t ∷ []) ≡ flat_map f ts ++ f t
unfolding flat_map
flat_more f [] t = append-nil (f t)
flat_more f (x ∷ ts) t = ap (λ (l : List ℕ). f x ++ l) (flat_more f ts t) ∙ sym (append_assoc (f x) (flat_map f ts) (f t))

module _ (stride : ℕ) (vs : List Float) (is : List ℕ) where
  -- the bytes of the first t triangles
  unfoldable pub facets_front : ℕ → List ℕ
  facets_front t = flat_map (λ t. facet (corners stride vs t)) (take t (triangles_of is))

  -- none is written yet
  pub facets_none : facets_front 0 ≡ []
  unfolding facets_front flat_map
  facets_none = refl

  -- triangle t is written
  pub facets_more : (t : ℕ) → t < triangle_count is → facets_front (t + 1) ≡ facets_front t ++ facet (corners stride vs (triangle_at is t))
  unfolding facets_front
  facets_more t h =
      let f : Triangle → List ℕ = λ t. facet (corners stride vs t) in
      let here = triangle_at is t in
      ap (λ (k : ℕ). flat_map f (take k (triangles_of is))) (add-one t)
      ∙ ap (flat_map f) (take-suc (triangles_of is) t here (omega (arith, triangles_third is)))
      ∙ ap (λ (x : Triangle). flat_map f (take t (triangles_of is) ++ x ∷ [])) (triangle_at_lem is t here h)
      ∙ flat_more f (take t (triangles_of is)) here

  -- all are: behind the head they are the file
  pub facets_all : (t : ℕ) → triangle_count is ≤ t → (replicate header_bytes 0 ++ word (triangle_count is)) ++ facets_front t ≡ file_of stride vs is
  unfolding facets_front file_of
  facets_all t h =
      ap (λ (ts : List Triangle). (replicate header_bytes 0 ++ word (triangle_count is)) ++ flat_map (λ t. facet (corners stride vs t)) ts)
      (take_all t (triangles_of is) (omega (arith, triangles_third is)))

  -- where the next begins
  pub facets_front_length : (t : ℕ) → t ≤ triangle_count is → length (facets_front t) ≡ facet_bytes * t
  unfolding facets_front
  facets_front_length t h =
      let l = facets_length stride vs (take t (triangles_of is)) in
      let k = length-take-le t (triangles_of is) (omega (arith, triangles_third is)) in
      omega arith

-- ---- the reader

-- the word at a place
abbrev pub word_at : List ℕ → ℕ → ℕ
word_at file p = number (take 4 (drop p file))

-- its four bytes
four_at : (file : List ℕ) (p : ℕ) → p + 4 ≤ length file
    → drop p file ≡ get_or file p 0 ∷ get_or file (p + 1) 0 ∷ get_or file (p + 2) 0 ∷ get_or file (p + 3) 0 ∷ drop (p + 4) file
four_at file p h =
    next p (p + 1) e1 (omega arith)
    ∙ ap (λ (l : List ℕ). get_or file p 0 ∷ l) (next (p + 1) (p + 2) e2 (omega arith))
    ∙ ap (λ (l : List ℕ). get_or file p 0 ∷ get_or file (p + 1) 0 ∷ l) (next (p + 2) (p + 3) e3 (omega arith))
    ∙ ap (λ (l : List ℕ). get_or file p 0 ∷ get_or file (p + 1) 0 ∷ get_or file (p + 2) 0 ∷ l) (next (p + 3) (p + 4) e4 (omega arith))
  where
    e1 : suc p ≡ p + 1
    e1 = omega arith

    e2 : suc (p + 1) ≡ p + 2
    e2 = omega arith

    e3 : suc (p + 2) ≡ p + 3
    e3 = omega arith

    e4 : suc (p + 3) ≡ p + 4
    e4 = omega arith

    next : (q r : ℕ) → suc q ≡ r → q < length file → drop q file ≡ get_or file q 0 ∷ drop r file
    next q r e l = drop-cons file q 0 l ∙ ap (λ (k : ℕ). get_or file q 0 ∷ drop k file) e

-- and the number that they make
pub word_at_lem : (file : List ℕ) (p : ℕ) → p + 4 ≤ length file
    → word_at file p ≡ get_or file p 0 + 256 * (get_or file (p + 1) 0 + 256 * (get_or file (p + 2) 0 + 256 * get_or file (p + 3) 0))
unfolding number
word_at_lem file p h = ap (λ (l : List ℕ). number (take 4 l)) (four_at file p h) ∙ omega arith

-- the count is the word behind the header
pub count_at_lem : (file : List ℕ) → count_of file ≡ word_at file header_bytes
unfolding count_of
count_at_lem file = refl

-- the coordinates of a point, by the words at a place
abbrev pub point_at : List ℕ → ℕ → List Float
point_at file p = f32 (word_at file p) ∷ f32 (word_at file (p + 4)) ∷ f32 (word_at file (p + 8)) ∷ []

-- the corners of a triangle, by the words at a place
abbrev pub corners_at : List ℕ → ℕ → List Float
corners_at file p = point_at file p ++ point_at file (p + 12) ++ point_at file (p + 24)

module _ (file : List ℕ) where
  -- one word of some
  word_first : (p k m : ℕ) → k ≡ m + 4 → p + 4 ≤ length file → floats_of (take k (drop p file)) ≡ f32 (word_at file p) ∷ floats_of (take m (drop (p + 4) file))
  unfolding floats_of
  word_first p k m e h =
      (λ i. floats_of (take (four i) (four_at file p h i)))
      ∙ ap (λ (l : List ℕ). f32 (number (take 4 l)) ∷ floats_of (take m (drop (p + 4) file))) (sym (four_at file p h))
    where
      four : k ≡ suc (suc (suc (suc m)))
      four = omega arith

  -- three
  point_first : (p k m : ℕ) → k ≡ m + 12 → p + 12 ≤ length file → floats_of (take k (drop p file)) ≡ point_at file p ++ floats_of (take m (drop (p + 12) file))
  point_first p k m e h =
      word_first p k (m + 8) (omega arith) (omega arith)
      ∙ ap (λ (l : List Float). f32 (word_at file p) ∷ l)
      (word_first (p + 4) (m + 8) (m + 4) (omega arith) (omega arith)
      ∙ (λ i. f32 (word_at file (p + 4)) ∷ floats_of (take (m + 4) (drop (e8 i) file)))
      ∙ ap (λ (l : List Float). f32 (word_at file (p + 4)) ∷ l)
      (word_first (p + 8) (m + 4) m refl (omega arith) ∙ (λ i. f32 (word_at file (p + 8)) ∷ floats_of (take m (drop (e12 i) file)))))
    where
      e8 : p + 4 + 4 ≡ p + 8
      e8 = omega arith

      e12 : p + 8 + 4 ≡ p + 12
      e12 = omega arith

  -- nine
  pub corners_at_lem : (p : ℕ) → p + 36 ≤ length file → floats_of (take corner_bytes (drop p file)) ≡ corners_at file p
  unfolding floats_of
  corners_at_lem p h =
      point_first p 36 24 refl (omega arith)
      ∙ ap (λ (l : List Float). point_at file p ++ l)
      (point_first (p + 12) 24 12 refl (omega arith)
      ∙ (λ i. point_at file (p + 12) ++ floats_of (take 12 (drop (e24 i) file)))
      ∙ ap (λ (l : List Float). point_at file (p + 12) ++ l) (point_first (p + 24) 12 0 refl (omega arith)))
    where
      e24 : p + 12 + 12 ≡ p + 24
      e24 = omega arith

-- the corners of one triangle more
pub corners_more : (t : ℕ) (bytes : List ℕ) → facet_corners (t + 1) bytes ≡ facet_corners t bytes ++ floats_of (take corner_bytes (drop (facet_bytes * t + normal_bytes) bytes))
unfolding facet_corners
corners_more zero bytes = append-nil (floats_of (take corner_bytes (drop normal_bytes bytes)))
corners_more (suc t) bytes =
    let here = floats_of (take corner_bytes (drop normal_bytes bytes)) in
    let rest = drop facet_bytes bytes in
    ap (λ (k : ℕ). facet_corners k bytes) over
    ∙ ap (λ (l : List Float). here ++ l)
    (corners_more t rest
    ∙ ap (λ (l : List ℕ). facet_corners t rest ++ floats_of (take corner_bytes l)) (drop-drop (facet_bytes * t + normal_bytes) facet_bytes bytes ∙ ap (λ (k : ℕ). drop k bytes) there))
    ∙ sym (append_assoc here (facet_corners t rest) (floats_of (take corner_bytes (drop (facet_bytes * suc t + normal_bytes) bytes))))
  where
    over : suc t + 1 ≡ suc (t + 1)
    over = omega arith

    there : facet_bytes + (facet_bytes * t + normal_bytes) ≡ facet_bytes * suc t + normal_bytes
    there = omega arith

-- those of triangle t of a file
pub corners_next : (file : List ℕ) (t : ℕ) → head_bytes + facet_bytes * t + facet_bytes ≤ length file
    → facet_corners (t + 1) (drop head_bytes file) ≡ facet_corners t (drop head_bytes file) ++ corners_at file (head_bytes + facet_bytes * t + normal_bytes)
corners_next file t h =
    corners_more t (drop head_bytes file)
    ∙ ap (λ (l : List ℕ). facet_corners t (drop head_bytes file) ++ floats_of (take corner_bytes l)) (drop-drop (facet_bytes * t + normal_bytes) head_bytes file)
    ∙ ap (λ (k : ℕ). facet_corners t (drop head_bytes file) ++ floats_of (take corner_bytes (drop k file))) there
    ∙ ap (λ (l : List Float). facet_corners t (drop head_bytes file) ++ l) (corners_at_lem file (head_bytes + facet_bytes * t + normal_bytes) (omega arith))
  where
    there : head_bytes + (facet_bytes * t + normal_bytes) ≡ head_bytes + facet_bytes * t + normal_bytes
    there = omega arith
