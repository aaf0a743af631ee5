-- The laws of a line for every row: a slice's lines are those of its chunks, one after the other. Assumes nothing.
use mathlib.Core.List.{List, [], ◌∷◌, ◌++◌, map, append-nil}
use mathlib.Core.Path.{◌≡◌, refl, sym, ◌∙◌, ap, subst}
use Prim.Native.Nat.{ℕ, suc, min, ◌+◌, ◌/◌, ◌≤◌, ◌<◌}
use native.Mathlib.Omega.{arith}
use borrow.Author.Tests.{eq-eqb, ne_eqb}
use lib.Ieee.{Float}
use lib.ListN.{length, get_or, take}
use lib.Seq.{take_all}
use native.Mathlib.Nat.{add-div_right}
use native.Mathlib.Numerals.{add-one}
use Rattle.std.proofs.lemmas.List.{take_more}
use Rattle.std.proofs.lemmas.Slice.Zip.{length-zip, get_or-zip}
use Rattle.std.proofs.lemmas.List.Concat.{flat_map-cons}
use Rattle.std.proofs.lemmas.Grind.{flat_map-append}
use Rattle.std.specs.List.{flat_map, zip}
use Rattle.std.specs.Simd.{first_chunks}
use Rattle.float_steps.specs.Floats.{bits32}
use Rattle.mesh_acceptance.specs.Acceptance.{failure_width}
use Rattle.mesh_layout.specs.Mesh.{range_width}
use Rattle.sheet_digit_writing.specs.Writing.{Wrote}
use Rattle.sheet_digit_writing.specs.Wrote.{wrote_none, wrote_then}
use Rattle.sheet_lines.specs.Forms.{Piece, line, vertex_form}
use Rattle.sheet_answer_rows.specs.Rows.{corner_at, empty_form, escape_form, failure_at, failure_line, failure_lines, four_at, range_form, range_lines, three_at, threes, upstream_form, vertex_lines}

-- ---- the lines of the first rows

-- the lines of the first i rows stand at a place
pub record Lined {A : Type 0} (f : A → List ℕ) (E : List ℕ) (at : ℕ) (rows : List A) (W : List ℕ) (place i : ℕ) : Type 0 where
  pub wrote : Wrote E at (flat_map f (take i rows)) W place

module _ {A : Type 0} (f : A → List ℕ) (E : List ℕ) (at : ℕ) (rows : List A) where
  pub lined_none : at ≤ length E → Lined f E at rows E at 0
  lined_none h = record { wrote = wrote_none E at h }

  module _ (W : List ℕ) (place i : ℕ) (v : Lined f E at rows W place i) where
    pub lined_more : (d : A) (U : List ℕ) (r : ℕ) → i < length rows → Wrote W place (f (get_or rows i d)) U r → Lined f E at rows U r (i + 1)
    lined_more d U r h w =
        let e : flat_map f (take (i + 1) rows) ≡ flat_map f (take i rows) ++ f (get_or rows i d) =
        ap (flat_map f) (take_more rows i d h) ∙ flat_map-append f (take i rows) (get_or rows i d ∷ []) ∙ ap (λ (xs : List ℕ). flat_map f (take i rows) ++ xs) (append-nil (f (get_or rows i d))) in
        record { wrote = subst (λ (xs : List ℕ). Wrote E at xs U r) (sym e) (wrote_then v.wrote w) }

    pub lined_all : (text : List ℕ) → text ≡ flat_map f rows → length rows ≤ i → Wrote E at text W place
    lined_all text e h = subst (λ (xs : List ℕ). Wrote E at xs W place) (ap (flat_map f) (take_all i rows h) ∙ sym e) v.wrote

-- ---- the lines of a slice are those of its chunks

-- how many chunks a list has that is longer by one
more_chunks : (n k : ℕ) → 0 < n → (k + n) / n ≡ suc (k / n)
more_chunks n k h = add-div_right k h ∙ add-one (k / n)

pub threes_rows : (form : List Piece) (xs : List ℕ) → threes form xs ≡ flat_map (λ row. line form (three_at row 0)) (first_chunks 3 (length xs / 3) xs)
unfolding threes
threes_rows form [] = refl
threes_rows form (a ∷ []) = refl
threes_rows form (a ∷ b ∷ []) = refl
threes_rows form (a ∷ b ∷ c ∷ xs) =
    let f : List ℕ → List ℕ = λ row. line form (three_at row 0) in
    let k : suc (suc (suc (length xs))) / 3 ≡ suc (length xs / 3) = ap (λ (m : ℕ). m / 3) (omega arith) ∙ more_chunks 3 (length xs) (omega arith) in
    ap (λ (ys : List ℕ). line form (a ∷ b ∷ c ∷ []) ++ ys) (threes_rows form xs)
    ∙ sym (flat_map-cons f (a ∷ b ∷ c ∷ []) (first_chunks 3 (length xs / 3) xs))
    ∙ ap (λ (m : ℕ). flat_map f (first_chunks 3 m (a ∷ b ∷ c ∷ xs))) (sym k)

pub range_rows : (xs : List ℕ) → range_lines xs ≡ flat_map (λ row. line range_form (four_at row 0)) (first_chunks range_width (length xs / range_width) xs)
unfolding range_lines
range_rows [] = refl
range_rows (a ∷ []) = refl
range_rows (a ∷ b ∷ []) = refl
range_rows (a ∷ b ∷ c ∷ []) = refl
range_rows (a ∷ b ∷ c ∷ d ∷ xs) =
    let f : List ℕ → List ℕ = λ row. line range_form (four_at row 0) in
    let k : suc (suc (suc (suc (length xs)))) / 4 ≡ suc (length xs / 4) = ap (λ (m : ℕ). m / 4) (omega arith) ∙ more_chunks 4 (length xs) (omega arith) in
    ap (λ (ys : List ℕ). line range_form (a ∷ b ∷ c ∷ d ∷ []) ++ ys) (range_rows xs)
    ∙ sym (flat_map-cons f (a ∷ b ∷ c ∷ d ∷ []) (first_chunks 4 (length xs / 4) xs))
    ∙ ap (λ (m : ℕ). flat_map f (first_chunks 4 m (a ∷ b ∷ c ∷ d ∷ xs))) (sym k)

pub failure_rows : (xs : List ℕ) → failure_lines xs ≡ flat_map (λ row. failure_at row 0) (first_chunks failure_width (length xs / failure_width) xs)
unfolding failure_lines
failure_rows [] = refl
failure_rows (a ∷ []) = refl
failure_rows (a ∷ b ∷ []) = refl
failure_rows (a ∷ b ∷ c ∷ []) = refl
failure_rows (a ∷ b ∷ c ∷ d ∷ []) = refl
failure_rows (a ∷ b ∷ c ∷ d ∷ e ∷ xs) =
    let f : List ℕ → List ℕ = λ row. failure_at row 0 in
    let k : suc (suc (suc (suc (suc (length xs))))) / 5 ≡ suc (length xs / 5) = ap (λ (m : ℕ). m / 5) (omega arith) ∙ more_chunks 5 (length xs) (omega arith) in
    ap (λ (ys : List ℕ). failure_line a b c d e ++ ys) (failure_rows xs)
    ∙ sym (flat_map-cons f (a ∷ b ∷ c ∷ d ∷ e ∷ []) (first_chunks 5 (length xs / 5) xs))
    ∙ ap (λ (m : ℕ). flat_map f (first_chunks 5 m (a ∷ b ∷ c ∷ d ∷ e ∷ xs))) (sym k)

-- a position beside a normal as a line
abbrev pub corner : List Float × List Float → List ℕ
corner r = line vertex_form (corner_at r.0 r.1 0)

-- coordinates by threes
abbrev pub chunks : List Float → List (List Float)
chunks xs = first_chunks 3 (length xs / 3) xs

-- the positions and normals of a body's vertices, side by side
abbrev pub corners : List Float → List Float → List (List Float × List Float)
corners ps ns = zip (chunks ps) (chunks ns)

no_more : {A B : Type 0} (xs : List A) → zip {K = A} {X = B} xs [] ≡ []
no_more [] = refl
no_more (x ∷ xs) = refl

pub vertex_rows : (ps ns : List Float) → vertex_lines (map bits32 ps) (map bits32 ns) ≡ flat_map corner (corners ps ns)
unfolding vertex_lines
vertex_rows [] ns = refl
vertex_rows (x ∷ []) ns = refl
vertex_rows (x ∷ y ∷ []) ns = refl
vertex_rows (x ∷ y ∷ z ∷ ps) [] = sym (ap (flat_map corner) (no_more (first_chunks 3 (suc (suc (suc (length ps))) / 3) (x ∷ y ∷ z ∷ ps))))
vertex_rows (x ∷ y ∷ z ∷ ps) (a ∷ []) = sym (ap (flat_map corner) (no_more (first_chunks 3 (suc (suc (suc (length ps))) / 3) (x ∷ y ∷ z ∷ ps))))
vertex_rows (x ∷ y ∷ z ∷ ps) (a ∷ b ∷ []) = sym (ap (flat_map corner) (no_more (first_chunks 3 (suc (suc (suc (length ps))) / 3) (x ∷ y ∷ z ∷ ps))))
vertex_rows (x ∷ y ∷ z ∷ ps) (a ∷ b ∷ c ∷ ns) =
    let k : suc (suc (suc (length ps))) / 3 ≡ suc (length ps / 3) = ap (λ (m : ℕ). m / 3) (omega arith) ∙ more_chunks 3 (length ps) (omega arith) in
    let l : suc (suc (suc (length ns))) / 3 ≡ suc (length ns / 3) = ap (λ (m : ℕ). m / 3) (omega arith) ∙ more_chunks 3 (length ns) (omega arith) in
    ap (λ (ys : List ℕ). corner (x ∷ y ∷ z ∷ [], a ∷ b ∷ c ∷ []) ++ ys) (vertex_rows ps ns)
    ∙ sym (flat_map-cons corner (x ∷ y ∷ z ∷ [], a ∷ b ∷ c ∷ []) (corners ps ns))
    ∙ ap (λ (m : ℕ). flat_map corner (zip (first_chunks 3 m (x ∷ y ∷ z ∷ ps)) (first_chunks 3 (suc (length ns / 3)) (a ∷ b ∷ c ∷ ns)))) (sym k)
    ∙ ap (λ (m : ℕ). flat_map corner (zip (first_chunks 3 (suc (suc (suc (length ps))) / 3) (x ∷ y ∷ z ∷ ps)) (first_chunks 3 m (a ∷ b ∷ c ∷ ns)))) (sym l)

-- ---- a loop over positions and normals side by side
module _ (E : List ℕ) (at : ℕ) (ps ns : List Float) (W : List ℕ) (place i : ℕ) (v : Lined corner E at (corners ps ns) W place i) where
  -- the next pair's line is written
  pub corner_more : (p n : List Float) → (i < length (chunks ps)) × (i < length (chunks ns)) × ((d : List Float) → p ≡ get_or (chunks ps) i d) × ((d : List Float) → n ≡ get_or (chunks ns) i d)
      → (U : List ℕ) (r : ℕ) → Wrote W place (line vertex_form (corner_at p n 0)) U r → Lined corner E at (corners ps ns) U r (i + 1)
  corner_more p n t U r w =
      let inside : i < length (corners ps ns) = omega (arith, length-zip (chunks ps) (chunks ns), t.0, t.1) in
      let pair : (p, n) ≡ get_or (corners ps ns) i ([], []) =
      ap (λ (x : List Float). (x, n)) (t.2 []) ∙ ap (λ (x : List Float). (get_or (chunks ps) i [], x)) (t.3 []) ∙ sym (get_or-zip (chunks ps) (chunks ns) i ([], []) t.0 t.1) in
      lined_more corner E at (corners ps ns) W place i v ([], []) U r inside (subst (λ (x : List Float × List Float). Wrote W place (corner x) U r) pair w)

  pub corner_all : i ≡ min (length (chunks ps)) (length (chunks ns)) → Wrote E at (vertex_lines (map bits32 ps) (map bits32 ns)) W place
  corner_all e = lined_all corner E at (corners ps ns) W place i v (vertex_lines (map bits32 ps) (map bits32 ns)) (vertex_rows ps ns) (omega (arith, length-zip (chunks ps) (chunks ns)))

-- ---- a failure
module _ (E : List ℕ) (at face bin n reach span : ℕ) (W : List ℕ) (r : ℕ) where
  pub failed_empty : n ≡ 0 → Wrote E at (line empty_form (face ∷ bin ∷ [])) W r → Wrote E at (failure_line face bin n reach span) W r
  unfolding failure_line
  failed_empty e w = rw (eq-eqb n 0 e, failure_line) w

  pub failed_escape : n ≡ 256 → Wrote E at (line escape_form (face ∷ bin ∷ reach ∷ span ∷ [])) W r → Wrote E at (failure_line face bin n reach span) W r
  unfolding failure_line
  failed_escape e w = rw (ne_eqb n 0 (λ z. omega arith), eq-eqb n 256 e, failure_line) w

  pub failed_upstream : (n ≡ 0 → ⊥) → (n ≡ 256 → ⊥) → Wrote E at (line upstream_form (face ∷ bin ∷ n ∷ [])) W r → Wrote E at (failure_line face bin n reach span) W r
  unfolding failure_line
  failed_upstream z e w = rw (ne_eqb n 0 z, ne_eqb n 256 e, failure_line) w
