-- A text that passes no limit of the smaller program is read alike by both: only the materials of the larger's further faces stand behind. Assumes nothing.
use Rattle.std.specs.Prelude.{Bool, ◌||◌, ◌≡◌, ℕ, ◌+◌, length}
use Rattle.std.proofs.Math.Bool.{true, false, not}
use mathlib.Core.List.{List, [], ◌∷◌}
use Rattle.std.proofs.Math.Option.{Option, none, some}
use Rattle.std.proofs.Math.Path.{refl, ap}
use Rattle.std.proofs.Common.{◌∙◌, arith}
use borrow.Author.Tests.{eqb-true}
use Rattle.std.proofs.Math.Dec.{eqb}
use Rattle.body_rows.specs.Body.{first_failing}
use Rattle.sheet_lines.specs.Forms.{Line, line_of}
use Rattle.sheet_line_order.specs.declared.Limits.{Limits}
use Rattle.sheet_line_order.specs.Laws.{line_limits}
use Rattle.sheet_line_order.specs.Reading.{State, cut, fails_with_zero, in_order, line_refusal, passes_limit, read_from, read_line, refuse, sheet_of, start, take_up, with_form}
use Rattle.sheet_line_order.specs.Refusals.{passed}
use Rattle.sheet_reader_state.specs.Kept.{Sized, sized_line, sized_start}
use Rattle.bench_agreement.specs.Within.{Within}
use Rattle.bench_agreement.specs.Reading.{padded, widened, read_stays, by_tests, limit_same, within_small, take_same, end_same, more_faces, start_same}

module _ (small large : Limits) (w : Within small large) (n : ℕ) where
  module _ (s : State) (el : s.limits ≡ small) (em : length s.sheet.materials ≡ small.face + 1) where
    refusal_same : (l : Line) → (line_refusal l s ≡ 52 → ⊥) → line_refusal l (widened large n s) ≡ line_refusal l s
    unfolding line_refusal first_failing widened
    refusal_same l h =
        go (not (in_order s.place l.kind) || fails_with_zero l.kind l.numbers) (passes_limit s.limits l.kind l.numbers s.sheet)
        (passes_limit large l.kind l.numbers (padded n s.sheet))
        (λ e. (limit_same small large w n) l.kind l.numbers s.sheet ((within_small small large w n s el em) l e)) h
      where
        go : (bad a b : Bool) → (a ≡ false → b ≡ false) → (by_tests bad a ≡ 52 → ⊥) → by_tests bad b ≡ by_tests bad a
        go true a b f k = refl
        go false true b f k = absurd (k refl)
        go false false b f k = ap (by_tests false) (f refl)

    form_same : (l : Line) → ((with_form s l).refusal ≡ 52 → ⊥) → with_form (widened large n s) l ≡ widened large n (with_form s l)
    unfolding with_form refuse widened
    form_same l h =
        ap (λ (k : ℕ). elim (eqb k 0) as (λ x. State) [ true ↦ take_up (widened large n s) l | false ↦ refuse k (widened large n s) ])
        (refusal_same l (λ e. h (ap (λ (k : ℕ). (elim (eqb k 0) as (λ x. State) [ true ↦ take_up s l | false ↦ refuse k s ]).refusal) e)))
        ∙ go (eqb (line_refusal l s) 0) refl
      where
        go : (b : Bool) → eqb (line_refusal l s) 0 ≡ b → elim b as (λ x. State) [ true ↦ take_up (widened large n s) l | false ↦ refuse (line_refusal l s) (widened large n s) ]
            ≡ widened large n (elim b as (λ x. State) [ true ↦ take_up s l | false ↦ refuse (line_refusal l s) s ])
        go true q = (take_same small large w n s el em) l (passed l s (eqb-true (line_refusal l s) 0 q)).limit
        go false q = refl

    line_same : (xs : List ℕ) → ((read_line s xs).refusal ≡ 52 → ⊥) → read_line (widened large n s) xs ≡ widened large n (read_line s xs)
    unfolding read_line refuse widened
    line_same xs h = go (eqb s.refusal 0) (line_of xs) h
      where
        go : (b : Bool) (o : Option Line)
            → ((elim b as (λ x. State) [ true ↦ elim o as (λ x. State) [ none ↦ refuse 51 s | some l ↦ with_form s l ] | false ↦ s ]).refusal ≡ 52 → ⊥)
            → elim b as (λ x. State) [
              | true ↦ elim o as (λ x. State) [ none ↦ refuse 51 (widened large n s) | some l ↦ with_form (widened large n s) l ]
              | false ↦ widened large n s
            ] ≡ widened large n (elim b as (λ x. State) [ true ↦ elim o as (λ x. State) [ none ↦ refuse 51 s | some l ↦ with_form s l ] | false ↦ s ])
        go true none k = refl
        go true (some l) k = form_same l k
        go false o k = refl

  read_same : (s : State) (ls : List (List ℕ)) → s.limits ≡ small → Sized s → ((read_from s ls).refusal ≡ 52 → ⊥) → read_from (widened large n s) ls ≡ widened large n (read_from s ls)
  unfolding read_from
  read_same s [] e v h = refl
  read_same s (rest ∷ []) e v h = (end_same small large w n) s rest
  read_same s (l ∷ m ∷ ls) e v h =
      let face = ap (λ (k : Limits). k.face) e in
      ap (λ (t : State). read_from t (m ∷ ls)) (line_same s e (omega (arith, v.materials)) l (λ q. h (read_stays (read_line s l) (m ∷ ls) q)))
      ∙ read_same (read_line s l) (m ∷ ls) (line_limits s l ∙ e) (sized_line s v l) h

-- A text that passes no limit of the smaller program says the same to both, but that the larger has more faces.
pub sheet_same : (small large : Limits) → Within small large → (text : List ℕ) → ((sheet_of small text).refusal ≡ 52 → ⊥)
    → sheet_of large text ≡ widened large (more_faces small large) (sheet_of small text)
unfolding sheet_of start
sheet_same small large w text h =
    ap (λ (s : State). read_from s (cut text)) (start_same small large w) ∙ read_same small large w (more_faces small large) (start small) (cut text) refl (sized_start small) h
