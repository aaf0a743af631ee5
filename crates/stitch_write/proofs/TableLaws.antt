-- A row's numbers written to the table. Assumes nothing.
use mathlib.Core.Path.{◌≡◌, sym, ap, ◌∙◌, subst}
use mathlib.Core.List.{List, [], ◌∷◌}
use Prim.Native.Nat.{ℕ, ◌+◌, ◌*◌, ◌≤◌}
use native.Mathlib.Omega.{arith}
use lib.ListN.{length, set}
use lib.Seq.{sets}
use Rattle.slice_append.specs.Appended.{Appended, appended_sets}
use Rattle.lists.specs.Sets.{sets_append, five_stored}
use Rattle.body_rows.specs.Body.{row_width}

-- six stores in turn are a run
six_stored : (l : List ℕ) (i a b c d e f : ℕ) → set (set (set (set (set (set l i a) (i + 1) b) (i + 2) c) (i + 3) d) (i + 4) e) (i + 5) f ≡ sets l i (a ∷ b ∷ c ∷ d ∷ e ∷ f ∷ [])
six_stored l i a b c d e f = ap (λ (m : List ℕ). set m (i + 5) f) (five_stored l i a b c d e) ∙ sym (sets_append l i (a ∷ b ∷ c ∷ d ∷ e ∷ []) (f ∷ []))

-- six stores, one behind the other
pub six_stores : (out : List ℕ) (k a b c d e f : ℕ) → row_width * k + row_width ≤ length out
    → Appended (row_width * k) (a ∷ b ∷ c ∷ d ∷ e ∷ f ∷ []) out
    (set (set (set (set (set (set out (row_width * k) a) (row_width * k + 1) b) (row_width * k + 2) c) (row_width * k + 3) d) (row_width * k + 4) e) (row_width * k + 5) f)
six_stores out k a b c d e f h = appended_sets (omega arith) (six_stored out (row_width * k) a b c d e f)

-- six numbers that are equal to others were written in their stead
pub row_put : {o s f c b s' f' c' b' v i : ℕ} {out new : List ℕ} → s ≡ s' → f ≡ f' → c ≡ c' → b ≡ b' → Appended o (s ∷ f ∷ c ∷ v ∷ i ∷ b ∷ []) out new
    → Appended o (s' ∷ f' ∷ c' ∷ v ∷ i ∷ b' ∷ []) out new
row_put {o} {v = v} {i = i} {out = out} {new = new} p q r t a = subst (λ (xs : List ℕ). Appended o xs out new) (λ j. p j ∷ q j ∷ r j ∷ v ∷ i ∷ t j ∷ []) a
