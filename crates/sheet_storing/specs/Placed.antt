-- Numbers that stand side by side in a list. Assumes nothing.
use Rattle.std.specs.Prelude.{List, [], ◌∷◌, ◌++◌, ◌≡◌, ℕ, ◌+◌, ◌%◌, ◌^◌, length, take, drop}
use Rattle.std.proofs.Common.{◌∙◌, ap}
use Rattle.sheet_line_order.specs.Reading.{at}

-- so many numbers at a place of a list
abbrev pub placed : List ℕ → ℕ → List ℕ → List ℕ
placed xs i vs = take i xs ++ (vs ++ drop (i + length vs) xs)

-- three numbers from a place on, their low 32 bits
abbrev pub low_three : List ℕ → ℕ → List ℕ
low_three ns i = at ns i % 2 ^ 32 ∷ at ns (i + 1) % 2 ^ 32 ∷ at ns (i + 2) % 2 ^ 32 ∷ []

-- three numbers at a place, and what follows them, by equal numbers
pub three_same : {W : List ℕ} (S : List ℕ) (i : ℕ) (rest : List ℕ) {x x' y y' z z' : ℕ} → x ≡ x' → y ≡ y' → z ≡ z' → W ≡ placed S i (x ∷ y ∷ z ∷ rest) → W ≡ placed S i (x' ∷ y' ∷ z' ∷ rest)
three_same S i rest {x} {x'} {y} {y'} {z} {z'} p q o e =
    e
    ∙ ap (λ (n : ℕ). placed S i (n ∷ y ∷ z ∷ rest)) p
    ∙ ap (λ (n : ℕ). placed S i (x' ∷ n ∷ z ∷ rest)) q
    ∙ ap (λ (n : ℕ). placed S i (x' ∷ y' ∷ n ∷ rest)) o
