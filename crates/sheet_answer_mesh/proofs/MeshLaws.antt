-- The laws of the mesh: its parts in their order. Assumes nothing.
use mathlib.Core.List.{List, [], ◌∷◌, map}
use mathlib.Core.Path.{◌≡◌, refl, subst}
use Prim.Native.Nat.{ℕ, ◌*◌}
use lib.Ieee.{Float}
use lib.ListN.{take}
use Rattle.float_steps.specs.Floats.{bits32}
use Rattle.mesh_acceptance.specs.Acceptance.{failure_width}
use Rattle.mesh_layout.specs.Mesh.{part_width, range_width}
use Rattle.sheet_digits.specs.Bytes.{bytes}
use Rattle.sheet_digit_writing.specs.Writing.{Wrote}
use Rattle.sheet_digit_writing.specs.Wrote.{wrote_then}
use Rattle.sheet_lines.specs.Forms.{line, numbers, triangle_form}
use Rattle.sheet_lines.specs.Pattern.{piece, pieces, split}
use Rattle.sheet_answer_text.specs.declared.Sizes.{Sizes}
use Rattle.sheet_answer_rows.specs.Rows.{failure_lines, range_lines, threes, vertex_lines}
use Rattle.sheet_answer_text.specs.Answer.{mesh_form, mesh_text, part_form}
use Rattle.sheet_answer_rows.specs.FormLaws.{as_form, as_threes}

pub mesh_written : {E W1 W2 W3 W4 W5 W6 : List ℕ} {at r1 r2 r3 r4 r5 r6 : ℕ} (z : Sizes) (ps ns : List Float)
    (is parts ranges failures : List ℕ) {ps' ns' : List Float} {is' parts' ranges' failures' : List ℕ}
    → ps' ≡ take (3 * z.vertices) ps → ns' ≡ take (3 * z.vertices) ns → parts' ≡ take (part_width * z.parts) parts → is' ≡ take z.indices is → ranges' ≡ take (range_width * z.ranges) ranges
    → failures' ≡ take (failure_width * z.failures) failures
    → Wrote E at (line (pieces (bytes "(mesh##)")) (z.vertices ∷ z.indices ∷ [])) W1 r1
    → Wrote W1 r1 (vertex_lines (map bits32 ps') (map bits32 ns')) W2 r2
    → Wrote W2 r2 (threes (pieces (bytes "(part###)")) parts') W3 r3
    → Wrote W3 r3 (threes (pieces (bytes "(t###)")) is') W4 r4
    → Wrote W4 r4 (range_lines ranges') W5 r5
    → Wrote W5 r5 (failure_lines failures') W6 r6
    → Wrote E at (mesh_text z ps ns is parts ranges failures) W6 r6
unfolding mesh_text piece split numbers
mesh_written {E} {W1} {W2} {W3} {W4} {W5} {W6} {at} {r1} {r2} {r3} {r4} {r5} {r6} z ps ns is parts ranges failures {ps'} {ns'} {is'} {parts'} {ranges'} {failures'} ep en ea ei er ef a b c d e f =
    wrote_then
    (wrote_then
    (wrote_then
    (wrote_then
    (wrote_then (as_form mesh_form (bytes "(mesh##)") refl (z.vertices ∷ z.indices ∷ []) a)
    (subst (λ (xs : List Float). Wrote W1 r1 (vertex_lines (map bits32 xs) (map bits32 (take (3 * z.vertices) ns))) W2 r2) ep
    (subst (λ (xs : List Float). Wrote W1 r1 (vertex_lines (map bits32 ps') (map bits32 xs)) W2 r2) en b)))
    (as_threes part_form (bytes "(part###)") refl (take (part_width * z.parts) parts) (subst (λ (xs : List ℕ). Wrote W2 r2 (threes (pieces (bytes "(part###)")) xs) W3 r3) ea c)))
    (as_threes triangle_form (bytes "(t###)") refl (take z.indices is) (subst (λ (xs : List ℕ). Wrote W3 r3 (threes (pieces (bytes "(t###)")) xs) W4 r4) ei d)))
    (subst (λ (xs : List ℕ). Wrote W4 r4 (range_lines xs) W5 r5) er e))
    (subst (λ (xs : List ℕ). Wrote W5 r5 (failure_lines xs) W6 r6) ef f)
