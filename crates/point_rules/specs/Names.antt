-- Laws of the names of vertices. Assumes nothing.
use Rattle.std.specs.Prelude.{◌≡◌, refl, List, [], ◌∷◌, ℕ, zero, suc, ◌+◌, ◌*◌, ◌<◌, length, get_or, Float}
use Rattle.std.proofs.Common.{ap, ◌∙◌, not-suc-le-zero, le_of_suc-le-suc, arith}
use Rattle.point_rules.specs.Rule.{Rule, names}

-- the name of vertex i
pub names_at : (rule : Rule) (ps : List Float) (i : ℕ) (d : Float) → 3 * i + 2 < length ps
    → get_or (names rule ps) i 0 ≡ rule (get_or ps (3 * i) d) (get_or ps (3 * i + 1) d) (get_or ps (3 * i + 2) d)
unfolding names
names_at rule [] i d h = absurd (not-suc-le-zero h)
names_at rule (x ∷ []) i d h = absurd (none h)
  where
    none : 3 * i + 2 < 1 → ⊥
    none h = omega arith
names_at rule (x ∷ y ∷ []) i d h = absurd (none h)
  where
    none : 3 * i + 2 < 2 → ⊥
    none h = omega arith
names_at rule (x ∷ y ∷ z ∷ ps) zero d h = refl
names_at rule (x ∷ y ∷ z ∷ ps) (suc i) d h =
    names_at rule ps i d (omega arith)
    ∙ (λ k. rule (get_or (x ∷ y ∷ z ∷ ps) (first k) d) (get_or (x ∷ y ∷ z ∷ ps) (shift 1 k) d) (get_or (x ∷ y ∷ z ∷ ps) (shift 2 k) d))
  where
    first : suc (suc (suc (3 * i))) ≡ 3 * suc i
    first = omega arith

    shift : (j : ℕ) → suc (suc (suc (3 * i + j))) ≡ 3 * suc i + j
    shift j = omega arith

-- as many names as vertices
pub names_length : (rule : Rule) (ps : List Float) (n : ℕ) → length ps ≡ 3 * n → length (names rule ps) ≡ n
unfolding names
names_length rule [] n e = omega arith
names_length rule (x ∷ []) n e = absurd (none n e)
  where
    none : (n : ℕ) → 1 ≡ 3 * n → ⊥
    none n e = omega arith
names_length rule (x ∷ y ∷ []) n e = absurd (none n e)
  where
    none : (n : ℕ) → 2 ≡ 3 * n → ⊥
    none n e = omega arith
names_length rule (x ∷ y ∷ z ∷ ps) zero e = absurd (none e)
  where
    none : suc (suc (suc (length ps))) ≡ 3 * 0 → ⊥
    none e = omega arith
names_length rule (x ∷ y ∷ z ∷ ps) (suc n) e = ap suc (names_length rule ps n (less e))
  where
    less : suc (suc (suc (length ps))) ≡ 3 * suc n → length ps ≡ 3 * n
    less e = omega arith

-- a vertex that has a name is among the positions
pub names_within : (rule : Rule) (ps : List Float) (i : ℕ) → i < length (names rule ps) → 3 * i + 2 < length ps
unfolding names
names_within rule [] i h = absurd (not-suc-le-zero h)
names_within rule (x ∷ []) i h = absurd (not-suc-le-zero h)
names_within rule (x ∷ y ∷ []) i h = absurd (not-suc-le-zero h)
names_within rule (x ∷ y ∷ z ∷ ps) zero h = omega arith
names_within rule (x ∷ y ∷ z ∷ ps) (suc i) h = omega (arith, names_within rule ps i (le_of_suc-le-suc h))

-- and one among the positions has a name
pub names_below : (rule : Rule) (ps : List Float) (i : ℕ) → 3 * i + 2 < length ps → i < length (names rule ps)
unfolding names
names_below rule [] i h = absurd (not-suc-le-zero h)
names_below rule (x ∷ []) i h = absurd (none h)
  where
    none : 3 * i + 2 < 1 → ⊥
    none h = omega arith
names_below rule (x ∷ y ∷ []) i h = absurd (none h)
  where
    none : 3 * i + 2 < 2 → ⊥
    none h = omega arith
names_below rule (x ∷ y ∷ z ∷ ps) zero h = omega arith
names_below rule (x ∷ y ∷ z ∷ ps) (suc i) h = omega (arith, names_below rule ps i (omega arith))
