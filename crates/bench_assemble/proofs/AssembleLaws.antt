-- The laws of what is printed of assemble's answer. Assumes nothing.
use Rattle.std.specs.Prelude.{Result, Ok, Err}
use mathlib.Core.List.{List, ◌++◌}
use mathlib.Core.Path.{◌≡◌, refl, sym, ◌∙◌, ap, subst}
use Prim.Native.Nat.{ℕ}
use native.Mathlib.Omega.{arith}
use lib.Ieee.{Float}
use lib.ListN.{length}
use Rattle.sheet_answer_text.specs.declared.Sizes.{Sizes}
use Rattle.sheet_answer_text.specs.declared.Tallies.{Tallies}
use Rattle.sheet_answer_text.specs.Longest.{answer_length, mesh_bytes}
use Rattle.sheet_answer_text.specs.Answer.{Written, mesh_text, count_text, refusal_line}
use Rattle.mesh_definition.specs.declared.MeshCounts.{MeshCounts}
use Rattle.mesh_definition.specs.Assemble.{AfterAssemble, assemble_of}
use Rattle.patch_geometry.specs.declared.Aabb.{Aabb}
use Rattle.mesh_definition.specs.Assembled.{LeftMesh, left_mesh, slices_of, assemble_answered, counts_answered}
use Rattle.turn_definition.specs.declared.TurnCounts.{TurnCounts}
use Rattle.bench_call_texts.specs.Cases.{result_cases, told_done, told_refused}
use Rattle.bench_call_texts.specs.Told.{Told}
use Rattle.bench_call_texts.specs.Texts.{MeshSaid, assembled_text, bytes_in, mesh_in, mesh_printed, sized_from, tallied_from}

-- ---- assemble's answer printed
module _ (t : TurnCounts) (splits : ℕ) (g : Result MeshCounts ℕ) (P N : List Float) (I parts ranges failures E W : List ℕ) (r : ℕ) where
  -- how many bytes the lines of the mesh take at the most
  abbrev lines : ℕ
  lines = mesh_bytes (length P) (length I) (length parts) (length ranges) (length failures)

  pub mesh_said : (c : MeshCounts) (z : Sizes) (y : Tallies) → g ≡ Ok c → z ≡ sized_from c → y ≡ tallied_from t splits c
      → Written E (mesh_text z P N I parts ranges failures ++ count_text y) W r
      → MeshSaid t splits g P N I parts ranges failures E W r
  unfolding mesh_printed
  mesh_said c z y d ez ey v = record { says = go }
    where
      go : (a : AfterAssemble) (w : List ℕ) → left_mesh g (slices_of P N I parts ranges failures w) ≡ assemble_answered a
          → Told lines E (mesh_printed t splits a) W r
      go a w e =
          let s : slices_of P N I parts ranges failures w ≡ a.slices = ap (λ (l : LeftMesh). l.slices) e in
          let one : mesh_text z P N I parts ranges failures ++ count_text y ≡ mesh_text (sized_from c) P N I parts ranges failures ++ count_text (tallied_from t splits c) =
          λ j. mesh_text (ez j) P N I parts ranges failures ++ count_text (ey j) in
          let all : c ≡ counts_answered a → mesh_text (sized_from c) P N I parts ranges failures ++ count_text (tallied_from t splits c)
          ≡ mesh_text (sized_from (counts_answered a)) a.slices.vertices.positions a.slices.vertices.normals a.slices.indices a.slices.parts a.slices.ranges
          a.slices.failures ++ count_text (tallied_from t splits (counts_answered a)) =
          λ k j. mesh_text (sized_from (k j)) (s j).vertices.positions (s j).vertices.normals (s j).indices (s j).parts (s j).ranges (s j).failures ++ count_text (tallied_from t splits (k j)) in
          told_done result_cases (counts_answered a) a.refusal lines E W r _ c (sym d ∙ ap (λ (l : LeftMesh). l.answer) e)
          (λ k. subst (λ (x : List ℕ). Told lines E x W r) (one ∙ all k) (record { written = v; few = answer_length z P N I parts ranges failures y }))

  pub mesh_said_refused : (k : ℕ) → g ≡ Err k → Written E (refusal_line k) W r → MeshSaid t splits g P N I parts ranges failures E W r
  unfolding mesh_printed
  mesh_said_refused k d v = record { says = λ a w e. told_refused result_cases (counts_answered a) a.refusal lines E W r _ k (sym d ∙ ap (λ (l : LeftMesh). l.answer) e) v }

-- ---- the slices that are lent
module _ (P₀ N₀ : List Float) (I₀ parts₀ ranges₀ failures₀ w₀ : List ℕ) (P N : List Float) (I parts ranges failures : List ℕ) (p : length P ≡ length P₀) (i : length I ≡ length I₀)
    (s : length parts ≡ length parts₀) (r : length ranges ≡ length ranges₀) (f : length failures ≡ length failures₀) where
  pub assembled_text_lem : (T : List ℕ) (Q R : List Float) (J : List ℕ) (box : Aabb) (M : List ℕ) (d : ℕ) (t : TurnCounts) (splits : ℕ) (g : Result MeshCounts ℕ) (w E W : List ℕ) (n : ℕ)
      → MeshSaid t splits g P N I parts ranges failures E W n
      → left_mesh g (slices_of P N I parts ranges failures w) ≡ assemble_answered (assemble_of T Q R J box M d (slices_of P₀ N₀ I₀ parts₀ ranges₀ failures₀ w₀))
      → Told (bytes_in (mesh_in P₀ N₀ I₀ parts₀ ranges₀ failures₀)) E (assembled_text T Q R J box M d t splits (slices_of P₀ N₀ I₀ parts₀ ranges₀ failures₀ w₀)) W n
  unfolding assembled_text
  assembled_text_lem T Q R J box M d t splits g w E W n m e =
      let same : mesh_bytes (length P) (length I) (length parts) (length ranges) (length failures)
      ≡ mesh_bytes (length P₀) (length I₀) (length parts₀) (length ranges₀) (length failures₀) = λ j. mesh_bytes (p j) (i j) (s j) (r j) (f j) in
      let a = assemble_of T Q R J box M d (slices_of P₀ N₀ I₀ parts₀ ranges₀ failures₀ w₀) in
      subst (λ (lines : ℕ). Told lines E (mesh_printed t splits a) W n) same (m.says a w e)
