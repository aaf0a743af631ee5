-- Another maker's file read and written again: the same bytes with its header, facet normals and last two bytes made zero. Assumes nothing.
use Rattle.std.specs.Prelude.{◌≡◌, refl, false, not, ℕ, zero, suc, ◌+◌, ◌*◌, ◌/◌, ◌%◌, ◌<◌, length, get_or, drop, T, Float}
use Rattle.std.proofs.Common.{sym, ◌∙◌, arith, take_at, drop_at}
use Rattle.std.proofs.Math.Path.{ap}
use mathlib.Core.List.{List, [], ◌∷◌, ◌++◌, flat_map}
use Rattle.std.proofs.Math.ListN.{take, replicate, length-drop}
use Rattle.std.proofs.Math.Seq.{length-take-le}
use Rattle.std.specs.Float.{nan, inf, fin, binary32}
use Rattle.std.specs.Float.Ieee.{is_nan}
use Rattle.std.specs.Float.Ieee.Bits.{to_bits-of_bits}
use Rattle.lists.specs.Lists.{any}
use Rattle.lists.specs.Any.{any_append}
use Rattle.lists.specs.Both.{or_left, or_right}
use Rattle.lists.specs.Each.{Each, at_each}
use Rattle.float_steps.specs.Floats.{f32, bits32, finite}
use Rattle.point_rules.specs.Points.{little_endian}
use Rattle.body_rows.specs.Body.{Triangle, triangles_of}
use Rattle.body_patch_checks.specs.PatchTests.{not_finite}
use Rattle.stl_definition.specs.Bytes.{word, word_bytes, number, float_bytes, floats_bytes, floats_of}
use Rattle.stl_definition.specs.File.{header_bytes, head_bytes, facet_bytes, normal_bytes, corner_bytes, last_bytes, corners, corners_of, facet, file_of, triangle_count}
use Rattle.stl_definition.specs.Read.{count_of, facet_corners, file_corners, ReadSlices, corner_not_finite, numbers_from, read_of}
use Rattle.stl_definition.specs.TestLaws.{first_not, rest_not}
use Rattle.stl_definition.specs.ByteLaws.{read_length}
use Rattle.stl_definition.specs.FileLaws.{triangles_third}
use Rattle.stl_definition.specs.CornerLaws.{numbers_length, corners_again}
use Rattle.stl_definition.specs.CallLaws.{file_left, write_leaves, read_passes, mesh_left, indices_left, rewrite_of}
use Rattle.stl_definition.specs.RoundTrip.{file_long, file_nine, mesh_read, indices_read}

-- ---- definitions

-- the bytes of so many triangles, normals and last two bytes made zero
unfoldable pub blank_facets : ℕ → List ℕ → List ℕ
blank_facets zero bytes = []
blank_facets (suc n) bytes = replicate normal_bytes 0 ++ take corner_bytes (drop normal_bytes bytes) ++ replicate last_bytes 0 ++ blank_facets n (drop facet_bytes bytes)

-- a file with these and its header made zero
unfoldable pub blanked : List ℕ → List ℕ
blanked file = replicate header_bytes 0 ++ take word_bytes (drop header_bytes file) ++ blank_facets (count_of file) (drop head_bytes file)

-- each is a byte, as the language knows of a slice of them
abbrev pub Bytes : List ℕ → Type 0
Bytes bs = (k : ℕ) → k < length bs → get_or bs k 0 < 256

-- ---- bytes

-- the same, item by item
abbrev EachByte : List ℕ → Type 0
EachByte bs = Each (λ b. b < 256) bs

each_take : (n : ℕ) (bs : List ℕ) → EachByte bs → EachByte (take n bs)
each_take zero bs e = tt
each_take (suc n) [] e = tt
each_take (suc n) (b ∷ bs) e = (e.0, each_take n bs e.1)

each_drop : (n : ℕ) (bs : List ℕ) → EachByte bs → EachByte (drop n bs)
each_drop zero bs e = e
each_drop (suc n) [] e = tt
each_drop (suc n) (b ∷ bs) e = each_drop n bs e.1

-- the bytes of the number that four bytes make
word_four : (a b c d : ℕ) → a < 256 → b < 256 → c < 256 → d < 256 → word (number (a ∷ b ∷ c ∷ d ∷ [])) ≡ a ∷ b ∷ c ∷ d ∷ []
unfolding number little_endian
word_four a b c d p q r s = λ i. ea i ∷ eb i ∷ ec i ∷ ed i ∷ []
  where
    n : ℕ
    n = a + 256 * (b + 256 * (c + 256 * (d + 256 * 0)))

    ea : n % 256 ≡ a
    ea = omega arith

    eb : n / 256 % 256 ≡ b
    eb = omega arith

    ec : n / 256 / 256 % 256 ≡ c
    ec = omega arith

    ed : n / 256 / 256 / 256 % 256 ≡ d
    ed = omega arith

-- which is below 2 ^ 32
number_below : (a b c d : ℕ) → a < 256 → b < 256 → c < 256 → d < 256 → number (a ∷ b ∷ c ∷ d ∷ []) < 4294967296
unfolding number
number_below a b c d p q r s = omega arith

-- of four bytes in a list
word_number : (bs : List ℕ) → length bs ≡ 4 → EachByte bs → word (number bs) ≡ bs
word_number [] h e = absurd (omega arith)
word_number (a ∷ []) h e = absurd (omega arith)
word_number (a ∷ b ∷ []) h e = absurd (omega arith)
word_number (a ∷ b ∷ c ∷ []) h e = absurd (omega arith)
word_number (a ∷ b ∷ c ∷ d ∷ []) h e = word_four a b c d e.0 e.1.0 e.1.1.0 e.1.1.1.0
word_number (a ∷ b ∷ c ∷ d ∷ x ∷ bs) h e = absurd (omega arith)

-- what is finite is no NaN
no_nan : (x : Float) → not_finite x ≡ false → T (not (is_nan x))
unfolding finite is_nan
no_nan nan h = let z : ◌≡◌ {A = ℕ} 0 1 = cc in absurd (omega arith)
no_nan (inf s) h = tt
no_nan (fin s m e) h = tt

-- the bytes of floats that were read, and are finite
floats_forth : (bs : List ℕ) (n : ℕ) → length bs ≡ 4 * n → EachByte bs → any not_finite (floats_of bs) ≡ false → floats_bytes (floats_of bs) ≡ bs
unfolding floats_bytes floats_of flat_map any
floats_forth [] n h e t = refl
floats_forth (a ∷ []) n h e t = absurd (omega arith)
floats_forth (a ∷ b ∷ []) n h e t = absurd (omega arith)
floats_forth (a ∷ b ∷ c ∷ []) n h e t = absurd (omega arith)
floats_forth (a ∷ b ∷ c ∷ d ∷ bs) zero h e t = absurd (omega arith)
floats_forth (a ∷ b ∷ c ∷ d ∷ bs) (suc n) h e t =
    let w = number (a ∷ b ∷ c ∷ d ∷ []) in
    let low = number_below a b c d e.0 e.1.0 e.1.1.0 e.1.1.1.0 in
    let bits : bits32 (f32 w) ≡ w = to_bits-of_bits binary32 w low (no_nan (f32 w) (first_not (not_finite (f32 w)) _ t)) in
    let here : float_bytes (f32 w) ≡ a ∷ b ∷ c ∷ d ∷ [] = ap word bits ∙ word_four a b c d e.0 e.1.0 e.1.1.0 e.1.1.1.0 in
    λ i. here i ++ floats_forth bs n (omega arith) e.1.1.1.1 (rest_not (not_finite (f32 w)) _ t) i

-- ---- triangles

-- the bytes of triangles, from their corners one after the other
unfoldable facets_of : ℕ → List Float → List ℕ
facets_of zero xs = []
facets_of (suc n) xs = facet (take 9 xs) ++ facets_of n (drop 9 xs)

by_nines : (stride : ℕ) (vs : List Float) (ts : List Triangle) → flat_map (λ t. facet (corners stride vs t)) ts ≡ facets_of (length ts) (flat_map (corners stride vs) ts)
unfolding flat_map facets_of
by_nines stride vs [] = refl
by_nines stride vs (t ∷ ts) = ap (λ (l : List ℕ). facet (corners stride vs t) ++ l) (by_nines stride vs ts)

-- of a file's triangles, written again
facets_forth : (n : ℕ) (bytes : List ℕ) → length bytes ≡ 50 * n → EachByte bytes → any not_finite (facet_corners n bytes) ≡ false → facets_of n (facet_corners n bytes) ≡ blank_facets n bytes
unfolding facets_of facet_corners blank_facets facet
facets_forth zero bytes h e t = refl
facets_forth (suc n) bytes h e t =
    let four = length-take-le 36 (drop 12 bytes) (omega (arith, length-drop 12 bytes)) in
    let here = take 36 (drop 12 bytes) in
    let xs = floats_of here in
    let ys = facet_corners n (drop 50 bytes) in
    let nine = read_length here 9 four in
    let all_finite = sym (any_append not_finite xs ys) ∙ t in
    let same = floats_forth here 9 four (each_take 36 (drop 12 bytes) (each_drop 12 bytes e)) (or_left (any not_finite xs) (any not_finite ys) all_finite) in
    let first : floats_bytes (take 9 (xs ++ ys)) ≡ here = ap floats_bytes (take_at xs ys 9 nine) ∙ same in
    (λ i. replicate normal_bytes 0 ++ first i ++ replicate last_bytes 0 ++ facets_of n (drop_at xs ys 9 nine i))
    ∙ ap (λ (l : List ℕ). replicate normal_bytes 0 ++ here ++ replicate last_bytes 0 ++ l)
    (facets_forth n (drop 50 bytes) (omega (arith, length-drop 50 bytes)) (each_drop 50 bytes e) (or_right (any not_finite xs) (any not_finite ys) all_finite))

-- ---- the file

module _ (file : List ℕ) (lent : ReadSlices) (bytes : Bytes file) (accepted : (read_of file lent).refusal ≡ 0) where
  -- the file of what was read
  written_blanked : file_of 3 (file_corners file) (numbers_from 0 (3 * count_of file)) ≡ blanked file
  unfolding file_of blanked corners_of count_of file_corners corner_not_finite
  written_blanked =
      let n = count_of file in
      let is = numbers_from 0 (3 * n) in
      let xs = file_corners file in
      let each = at_each (λ b. b < 256) file 0 bytes in
      let long = file_long file lent accepted in
      let k : triangle_count is ≡ n = omega (arith, numbers_length 0 (3 * n)) in
      let four = length-take-le 4 (drop 80 file) (omega (arith, length-drop 80 file)) in
      let head : word (triangle_count is) ≡ take 4 (drop 80 file) = ap word k ∙ word_number (take 4 (drop 80 file)) four (each_take 4 (drop 80 file) (each_drop 80 file each)) in
      let tail : flat_map (λ t. facet (corners 3 xs t)) (triangles_of is) ≡ blank_facets n (drop 84 file) =
      by_nines 3 xs (triangles_of is)
      ∙ (λ i. facets_of ((triangles_third is ∙ k) i) (corners_again xs n (file_nine file lent accepted) i))
      ∙ facets_forth n (drop 84 file) (omega (arith, length-drop 84 file)) (each_drop 84 file each) (read_passes file lent accepted).readable.all_finite in
      λ i. replicate header_bytes 0 ++ head i ++ tail i

  -- A file that is read and written again comes out with its header, normals and last two bytes zero, and else byte by byte as it was.
  pub rewritten : (out : List ℕ) → (rewrite_of (read_of file lent) out).refusal ≡ 0
      → file_left (rewrite_of (read_of file lent) out) ≡ blanked file
  rewritten out e =
      write_leaves (mesh_left (read_of file lent)) (indices_left (read_of file lent)) out e
      ∙ (λ i. file_of 3 (mesh_read file lent accepted i).positions (indices_read file lent accepted i))
      ∙ written_blanked
