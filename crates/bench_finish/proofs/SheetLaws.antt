-- The laws of a sheet's body put into arrays and finished: what stands in their fronts is the sheet's. Assumes nothing.
use mathlib.Core.Bool.{Bool, true, false, not}
use mathlib.Core.List.{List, [], ◌∷◌, ◌++◌, map}
use mathlib.Core.Path.{◌≡◌, sym, ◌∙◌, ap, subst}
use Prim.Native.Nat.{ℕ, ◌+◌, ◌*◌, ◌≤◌, ◌<◌}
use native.Mathlib.Omega.{arith}
use borrow.Author.Tests.{eq-eqb, ne_eqb, not-true, not-false}
use lib.Ieee.{Float}
use lib.ListN.{length, take, drop, length-append, length-drop, length-map, length-take}
use lib.Seq.{length-take-le, take_all, take_at}
use Rattle.body_rows.specs.Body.{row_width}
use Rattle.sheet_answer_text.specs.Answer.{Written, refusal_line}
use Rattle.float_steps.specs.Floats.{f32, f64}
use Rattle.patch_geometry.specs.declared.Aabb.{Aabb}
use Rattle.sheet_reader_state.specs.declared.Reader.{Reader}
use Rattle.sheet_reader_state.specs.Limits.{Limited, limited}
use Rattle.sheet_reader_state.specs.Slices.{in_limits, lent, patterns_of}
use Rattle.sheet_meaning.specs.Meaning.{box_of, meant}
use Rattle.bench_call_texts.specs.Told.{Told, told_refusal}
use Rattle.bench_call_texts.specs.Texts.{MeshRoom, StitchRoom, bytes_in, finished_text}
use Rattle.bench_finish.specs.Answer.{BodyRoom, answer_with, body_text}
use Rattle.bench_finish.specs.Fronts.{FrontsSaid}

-- ---- an array filled from its front
module _ {A : Type 0} (ys E : List A) (m n : ℕ) (e : length ys ≡ n) (h : n ≤ length E) where
  filled_front : (F : List A) → F ≡ take (length E) ys ++ drop m E → take n F ≡ ys
  filled_front F q =
      ap (take n) q
      ∙ ap (λ (xs : List A). take n (xs ++ drop m E)) (take_all (length E) ys (omega arith))
      ∙ take_at ys (drop m E) n e

-- a front of the same length in front of the rest
pub front_back : {A : Type 0} (front xs : List A) (n : ℕ) → length front ≡ length (take n xs) → length (front ++ drop n xs) ≡ length xs
front_back front xs n e = length-append front (drop n xs) ∙ omega (arith, length-take n xs, length-drop n xs)

pub whole_materials : (s : List ℕ) (face : ℕ) → length s ≤ face → s ≡ take (face + 1) s
whole_materials s face h = sym (take_all (face + 1) s (omega arith))

-- ---- the fronts of slices
module _ (T : List ℕ) (P N : List Float) (I : List ℕ) (n m : ℕ) (sag : Float) (box : Aabb) (M : List ℕ) (d : ℕ) (into : StitchRoom)
    (out : MeshRoom) (work E W : List ℕ) (r : ℕ) where
  pub few_normals : length N < n → FrontsSaid T P N I n m sag box M d into out work E W r
  few_normals h = record { says = λ a b. absurd (omega arith) }

  pub few_indices : length I < m → FrontsSaid T P N I n m sag box M d into out work E W r
  few_indices h = record { says = λ a b. absurd (omega arith) }

  pub fronts_said : (A : List Float) → A ≡ take n P → Told (bytes_in out) E (finished_text T A (take n N) (take m I) sag box M d into out work) W r
      → FrontsSaid T P N I n m sag box M d into out work E W r
  fronts_said A e v = record { says = λ a b. subst (λ (B : List Float). Told (bytes_in out) E (finished_text T B (take n N) (take m I) sag box M d into out work) W r) e v }

-- ---- the body
module _ (s : Reader) (T P N I M : List ℕ) (v : Limited s (length T) (length P) (length N) (length I) (length M)) (into : StitchRoom) (out : MeshRoom) (work : List ℕ) where
  abbrev n : ℕ
  n = 3 * s.vertices

  -- the floats of a slice's front fill the front of another
  floats_front : (X fX : List ℕ) (E F : List Float) → n ≤ length X → n ≤ length E → fX ≡ take n X → F ≡ take (length E) (map f32 fX) ++ drop (length fX) E → take n F ≡ map f32 (take n X)
  floats_front X fX E F long room q f =
      let count : length (map f32 fX) ≡ n = length-map fX f32 ∙ ap length q ∙ length-take-le n X long in
      filled_front (map f32 fX) E (length fX) n count room F f ∙ ap (map f32) q

  pub body_told : (FT FP FN FI FM : List ℕ) (EP EN BP BN : List Float) (EI Bi : List ℕ) (sag : Float) (box : Aabb) (E W : List ℕ) (r : ℕ) → BodyRoom s.limits (length EP) (length EN) (length EI)
      → FP ≡ take n P → FN ≡ take n N → FI ≡ take s.indices I → FT ≡ take (row_width * s.rows) T → FM ≡ take (s.limits.face + 1) M
      → BP ≡ take (length EP) (map f32 FP) ++ drop (length FP) EP → BN ≡ take (length EN) (map f32 FN) ++ drop (length FN) EN → Bi ≡ take (length EI) FI ++ drop (length FI) EI
      → sag ≡ f64 s.sag → box ≡ box_of (s.minx ∷ s.miny ∷ s.minz ∷ s.maxx ∷ s.maxy ∷ s.maxz ∷ [])
      → FrontsSaid FT BP BN Bi n s.indices sag box FM s.default into out work E W r
      → Told (bytes_in out) E (body_text into out work (meant (patterns_of (lent s T P N I M)))) W r
  unfolding meant
  body_told FT FP FN FI FM EP EN BP BN EI Bi sag box E W r room fp fn fi ft fm bp bn bi es eb said =
      let few : n ≤ 3 * s.limits.vertices = omega (arith, v.vertices) in
      let indices : length FI ≡ s.indices = ap length fi ∙ length-take-le s.indices I (omega (arith, v.room.indices, v.counted)) in
      let ps : take n BP ≡ map f32 (take n P) = floats_front P FP EP BP (omega (arith, v.room.positions)) (omega (arith, room.positions)) fp bp in
      let ns : take n BN ≡ map f32 (take n N) = floats_front N FN EN BN (omega (arith, v.room.normals)) (omega (arith, room.normals)) fn bn in
      let is : take s.indices Bi ≡ take s.indices I = filled_front FI EI (length FI) s.indices indices (omega (arith, v.counted, room.indices)) Bi bi ∙ fi in
      let long_normals : n ≤ length BN = omega (arith, ap length ns, length-map (take n N) f32, length-take-le n N (omega (arith, v.room.normals)), length-take n BN) in
      let long_indices : s.indices ≤ length Bi = omega (arith, ap length is, length-take-le s.indices I (omega (arith, v.room.indices, v.counted)), length-take s.indices Bi) in
      let same : finished_text FT (take n BP) (take n BN) (take s.indices Bi) sag box FM s.default into out work ≡ body_text into out work (meant (patterns_of (lent s T P N I M))) =
      λ j. finished_text (ft j) (ps j) (ns j) (is j) (es j) (eb j) (fm j) s.default into out work in
      subst (λ (x : List ℕ). Told (bytes_in out) E x W r) same (said.says long_normals long_indices)

-- ---- the sheet
pub within_limits : (s : Reader) (t p n i m : ℕ) (b : Bool) → b ≡ in_limits s t p n i m → not b ≡ false → Limited s t p n i m
within_limits s t p n i m b e h = limited s t p n i m (sym e ∙ not-false b h)

pub body_room : (s : Reader) (t p n i m : ℕ) (b : Bool) → b ≡ in_limits s t p n i m → not b ≡ false → BodyRoom s.limits p n i
body_room s t p n i m b e h =
    let v : Limited s t p n i m = within_limits s t p n i m b e h in
    record { positions = v.room.positions; normals = v.room.normals; indices = v.room.indices }

module _ (s : Reader) (T P N I M : List ℕ) (p n i : ℕ) (into : StitchRoom) (out : MeshRoom) (work E W : List ℕ) (r : ℕ) where
  -- how many bytes the lines of the mesh take at the most
  abbrev lines : ℕ
  lines = bytes_in out

  -- what is printed
  abbrev text : List ℕ
  text = answer_with p n i into out work (lent s T P N I M)

  pub sheet_refused : (s.refusal ≡ 0 → ⊥) → Written E (refusal_line s.refusal) W r → Told lines E text W r
  unfolding answer_with
  sheet_refused h v = subst (λ (x : List ℕ). Told lines E x W r) (sym (rw (ne_eqb s.refusal 0 h, answer_with))) (told_refusal lines E s.refusal W r v)

  module _ (b : Bool) (z : s.refusal ≡ 0) (e : b ≡ in_limits s (length T) (length P) (length N) (length I) (length M)) where
    pub sheet_large : not b ≡ true → Written E (refusal_line 52) W r → Told lines E text W r
    unfolding answer_with
    sheet_large h v = subst (λ (x : List ℕ). Told lines E x W r) (sym (rw (eq-eqb s.refusal 0 z, sym e ∙ not-true b h, answer_with))) (told_refusal lines E 52 W r v)

    module _ (h : not b ≡ false) (c : Bool) (f : c ≡ in_limits s (length T) p n i (length M)) where
      pub sheet_cramped : not c ≡ true → Written E (refusal_line 52) W r → Told lines E text W r
      unfolding answer_with
      sheet_cramped g v =
          subst (λ (x : List ℕ). Told lines E x W r) (sym (rw (eq-eqb s.refusal 0 z, sym e ∙ not-false b h, sym f ∙ not-true c g, answer_with))) (told_refusal lines E 52 W r v)

      pub sheet_told : not c ≡ false → Told lines E (body_text into out work (meant (patterns_of (lent s T P N I M)))) W r → Told lines E text W r
      unfolding answer_with
      sheet_told g v = subst (λ (x : List ℕ). Told lines E x W r) (sym (rw (eq-eqb s.refusal 0 z, sym e ∙ not-false b h, sym f ∙ not-false c g, answer_with))) v
