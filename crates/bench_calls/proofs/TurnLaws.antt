-- The laws of what is printed of turn's answer. Assumes nothing.
use Rattle.std.specs.Prelude.{Result, Ok, Err}
use mathlib.Core.List.{List}
use mathlib.Core.Path.{◌≡◌, refl, sym, ◌∙◌, ap, subst}
use Prim.Native.Nat.{ℕ}
use native.Mathlib.Omega.{arith}
use lib.Ieee.{Float}
use Rattle.sheet_answer_text.specs.Answer.{Written, refusal_line}
use Rattle.point_rules.specs.Points.{key}
use Rattle.patch_geometry.specs.declared.Aabb.{Aabb}
use Rattle.turn_definition.specs.declared.TurnCounts.{TurnCounts}
use Rattle.turn_definition.specs.Orient.{AfterTurn, turn_of}
use Rattle.turn_definition.specs.Answers.{Left, left, answered}
use Rattle.bench_call_texts.specs.Cases.{result_cases, told_done, told_refused}
use Rattle.bench_call_texts.specs.Told.{Told}
use Rattle.bench_call_texts.specs.Texts.{MeshRoom, StitchRoom, TurnSaid, bytes_in, finished_text, stitched_text, turn_printed}

-- ---- turn's answer printed
abbrev counts_in : AfterTurn → TurnCounts
counts_in t = record { turned = t.turned; against = t.against }

module _ (T : List ℕ) (P : List Float) (sag : Float) (box : Aabb) (M : List ℕ) (d : ℕ) (g : Result TurnCounts ℕ) (N : List Float) (I w : List ℕ) (into : StitchRoom) (out : MeshRoom) (E W : List ℕ) (r : ℕ) where
  pub turn_said : (c : TurnCounts) → g ≡ Ok c → Told (bytes_in out) E (stitched_text T P N I sag box M d c into out w) W r → TurnSaid T P sag box M d g N I w into out E W r
  unfolding turn_printed
  turn_said c q v = record { says = go }
    where
      go : (t : AfterTurn) → left g N I w ≡ answered t → Told (bytes_in out) E (turn_printed T P sag box M d into out t) W r
      go t e =
          let all : c ≡ counts_in t → stitched_text T P N I sag box M d c into out w ≡ stitched_text T P t.normals t.indices sag box M d (counts_in t) into out t.work =
          λ k j. stitched_text T P (e j).normals (e j).indices sag box M d (k j) into out (e j).work in
          told_done result_cases (counts_in t) t.refusal (bytes_in out) E W r _ c (sym q ∙ ap (λ (l : Left). l.answer) e) (λ k. subst (λ (x : List ℕ). Told (bytes_in out) E x W r) (all k) v)

  pub turn_said_refused : (k : ℕ) → g ≡ Err k → Written E (refusal_line k) W r → TurnSaid T P sag box M d g N I w into out E W r
  unfolding turn_printed
  turn_said_refused k q v = record { says = λ t e. told_refused result_cases (counts_in t) t.refusal (bytes_in out) E W r _ k (sym q ∙ ap (λ (l : Left). l.answer) e) v }

pub finished_text_lem : (T : List ℕ) (P Q : List Float) (J : List ℕ) (sag : Float) (box : Aabb) (M : List ℕ) (d : ℕ) (g : Result TurnCounts ℕ) (N : List Float) (I w w₀ : List ℕ) (into : StitchRoom)
    (out : MeshRoom) (E W : List ℕ) (r : ℕ)
    → TurnSaid T P sag box M d g N I w into out E W r → left g N I w ≡ answered (turn_of key T P Q J w₀) → Told (bytes_in out) E (finished_text T P Q J sag box M d into out w₀) W r
unfolding finished_text
finished_text_lem T P Q J sag box M d g N I w w₀ into out E W r m e = m.says (turn_of key T P Q J w₀) e
