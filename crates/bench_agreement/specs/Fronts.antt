-- The front of a slice that was written, whatever the slice's length, and the lines of a mesh by the fronts of its slices. Assumes nothing.
use mathlib.Core.List.{List, [], ◌∷◌, ◌++◌, map}
use Rattle.std.specs.Prelude.{◌≡◌, take, replicate, Float}
use Rattle.std.proofs.Math.Path.{refl, ap}
use Prim.Native.Nat.{ℕ, zero, suc, ◌*◌, ◌≤◌}
use Rattle.std.proofs.Common.{arith}
use Rattle.lists.specs.Lists.{written}
use Rattle.float_steps.specs.Floats.{bits32}
use Rattle.mesh_acceptance.specs.Acceptance.{failure_width}
use Rattle.mesh_layout.specs.Mesh.{part_width, range_width}
use Rattle.sheet_lines.specs.Forms.{line, triangle_form}
use Rattle.sheet_answer_rows.specs.Rows.{failure_lines, range_lines, threes, vertex_lines}
use Rattle.sheet_answer_text.specs.declared.Sizes.{Sizes}
use Rattle.sheet_answer_text.specs.Answer.{mesh_form, mesh_text, part_form}

module _ {A : Type 0} where
  -- the first n of more copies
  copies_front : (z : A) (n a b : ℕ) → n ≤ a → n ≤ b → take n (replicate a z) ≡ take n (replicate b z)
  copies_front z zero a b h k = refl
  copies_front z (suc n) zero b h k = absurd (omega arith)
  copies_front z (suc n) (suc a) zero h k = absurd (omega arith)
  copies_front z (suc n) (suc a) (suc b) h k = ap (λ (xs : List A). z ∷ xs) (copies_front z n a b (omega arith) (omega arith))

  -- What is written to the front of a filled slice is the same, however long the slice is.
  pub written_front : (z : A) (xs : List A) (n a b : ℕ) → n ≤ a → n ≤ b → take n (written xs (replicate a z)) ≡ take n (written xs (replicate b z))
  unfolding written
  written_front z [] n a b h k = copies_front z n a b h k
  written_front z (x ∷ xs) zero a b h k = refl
  written_front z (x ∷ xs) (suc n) zero b h k = absurd (omega arith)
  written_front z (x ∷ xs) (suc n) (suc a) zero h k = absurd (omega arith)
  written_front z (x ∷ xs) (suc n) (suc a) (suc b) h k = ap (λ (ys : List A). x ∷ ys) (written_front z xs n a b (omega arith) (omega arith))

-- The lines of a mesh are read from the fronts of its slices.
pub text_fronts : (z : Sizes) (P P' N N' : List Float) (I I' parts parts' ranges ranges' failures failures' : List ℕ) → take (3 * z.vertices) P ≡ take (3 * z.vertices) P'
    → take (3 * z.vertices) N ≡ take (3 * z.vertices) N' → take z.indices I ≡ take z.indices I' → take (part_width * z.parts) parts ≡ take (part_width * z.parts) parts'
    → take (range_width * z.ranges) ranges ≡ take (range_width * z.ranges) ranges' → take (failure_width * z.failures) failures ≡ take (failure_width * z.failures) failures'
    → mesh_text z P N I parts ranges failures ≡ mesh_text z P' N' I' parts' ranges' failures'
unfolding mesh_text
text_fronts z P P' N N' I I' parts parts' ranges ranges' failures failures' ep en ei et er ef =
    λ j. line mesh_form (z.vertices ∷ z.indices ∷ [])
    ++ vertex_lines (map bits32 (ep j)) (map bits32 (en j))
    ++ threes part_form (et j)
    ++ threes triangle_form (ei j)
    ++ range_lines (er j)
    ++ failure_lines (ef j)
