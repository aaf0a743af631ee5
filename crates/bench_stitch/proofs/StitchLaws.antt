-- The laws of what is printed of stitch's answer. Assumes nothing.
use Rattle.std.specs.Prelude.{Result, Ok, Err}
use mathlib.Core.List.{List}
use mathlib.Core.Path.{◌≡◌, refl, sym, ◌∙◌, ap, subst}
use Prim.Native.Nat.{ℕ, ◌*◌}
use native.Mathlib.Omega.{arith}
use lib.Ieee.{Float}
use lib.ListN.{length, take}
use Rattle.sheet_answer_text.specs.Answer.{Written, refusal_line}
use Rattle.point_rules.specs.Points.{key}
use Rattle.patch_geometry.specs.declared.Aabb.{Aabb}
use Rattle.turn_definition.specs.declared.TurnCounts.{TurnCounts}
use Rattle.stitch_definition.specs.declared.Sizes.{Sizes}
use Rattle.stitch_definition.specs.Slices.{AfterStitch}
use Rattle.stitch_definition.specs.Stitch.{stitch_of}
use Rattle.stitch_definition.specs.Answers.{LeftStitch, left_stitch, slices_of, stitch_answered}
use Rattle.bench_call_texts.specs.Cases.{result_cases, told_done, told_refused}
use Rattle.bench_call_texts.specs.Told.{Told}
use Rattle.bench_call_texts.specs.Texts.{MeshRoom, StitchSaid, assembled_text, bytes_in, stitch_in, stitch_printed, stitched_text}

-- ---- stitch's answer printed
abbrev sizes_in : AfterStitch → Sizes
sizes_in s = record { vertices = s.vertices; indices = s.indices; splits = s.splits }

module _ (T : List ℕ) (box : Aabb) (M : List ℕ) (d : ℕ) (t : TurnCounts) (g : Result Sizes ℕ) (R : List ℕ) (P N : List Float) (I w : List ℕ) (out : MeshRoom) (E W : List ℕ) (r : ℕ) where
  pub stitch_said : (z : Sizes) (A : List ℕ) (B C : List Float) (D : List ℕ) → g ≡ Ok z → A ≡ take (length T) R → B ≡ take (3 * z.vertices) P → C ≡ take (3 * z.vertices) N
      → D ≡ take z.indices I
      → Told (bytes_in out) E (assembled_text A B C D box M d t z.splits (out w)) W r → StitchSaid T box M d t g R P N I w out E W r
  unfolding stitch_printed
  stitch_said z A B C D q ea eb ec ed v = record { says = go }
    where
      go : (s : AfterStitch) → left_stitch g (slices_of R P N I w) ≡ stitch_answered s → Told (bytes_in out) E (stitch_printed T box M d t out s) W r
      go s e =
          let o : slices_of R P N I w ≡ s.slices = ap (λ (l : LeftStitch). l.slices) e in
          let one : assembled_text A B C D box M d t z.splits (out w)
          ≡ assembled_text (take (length T) R) (take (3 * z.vertices) P) (take (3 * z.vertices) N) (take z.indices I) box M d t z.splits (out w) =
          λ j. assembled_text (ea j) (eb j) (ec j) (ed j) box M d t z.splits (out w) in
          let all : z ≡ sizes_in s → assembled_text (take (length T) R) (take (3 * z.vertices) P) (take (3 * z.vertices) N) (take z.indices I) box M d t z.splits (out w)
          ≡ assembled_text (take (length T) s.slices.table) (take (3 * s.vertices) s.slices.positions) (take (3 * s.vertices) s.slices.normals)
          (take s.indices s.slices.indices) box M d t s.splits (out s.slices.work) =
          λ k j. assembled_text (take (length T) (o j).table) (take (3 * (k j).vertices) (o j).positions) (take (3 * (k j).vertices) (o j).normals) (take (k j).indices (o j).indices) box M d t
          (k j).splits (out (o j).work) in
          told_done result_cases (sizes_in s) s.refusal (bytes_in out) E W r _ z (sym q ∙ ap (λ (l : LeftStitch). l.answer) e)
          (λ k. subst (λ (x : List ℕ). Told (bytes_in out) E x W r) (one ∙ all k) v)

  pub stitch_said_refused : (k : ℕ) → g ≡ Err k → Written E (refusal_line k) W r → StitchSaid T box M d t g R P N I w out E W r
  unfolding stitch_printed
  stitch_said_refused k q v = record { says = λ s e. told_refused result_cases (sizes_in s) s.refusal (bytes_in out) E W r _ k (sym q ∙ ap (λ (l : LeftStitch). l.answer) e) v }

-- ---- the slices that are lent
pub stitched_text_lem : (T : List ℕ) (Q U : List Float) (J : List ℕ) (sag : Float) (box : Aabb) (M : List ℕ) (d : ℕ) (t : TurnCounts) (g : Result Sizes ℕ) (R : List ℕ) (P N : List Float) (I w : List ℕ)
    (R₀ : List ℕ) (P₀ N₀ : List Float) (I₀ w₀ : List ℕ) (out : MeshRoom) (E W : List ℕ) (r : ℕ)
    → StitchSaid T box M d t g R P N I w out E W r → left_stitch g (slices_of R P N I w) ≡ stitch_answered (stitch_of key T Q U J sag (slices_of R₀ P₀ N₀ I₀ w₀))
    → Told (bytes_in out) E (stitched_text T Q U J sag box M d t (stitch_in R₀ P₀ N₀ I₀) out w₀) W r
unfolding stitched_text
stitched_text_lem T Q U J sag box M d t g R P N I w R₀ P₀ N₀ I₀ w₀ out E W r m e = m.says (stitch_of key T Q U J sag (slices_of R₀ P₀ N₀ I₀ w₀)) e
