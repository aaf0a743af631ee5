-- In positions without −0.0 the rule that joins the two zeros names every point as the rule by bits does. Assumes nothing.
use Rattle.std.specs.Prelude.{◌≡◌, refl, Bool, true, false, cond, List, [], ◌∷◌, ℕ, ◌+◌, ◌*◌, ◌^◌, eqb, Float}
use Rattle.std.proofs.Common.{sym, ap, ◌∙◌, arith}
use Rattle.lists.specs.Lists.{any}
use Rattle.float_steps.specs.Floats.{bits32}
use Rattle.point_rules.specs.Rule.{names}
use Rattle.point_rules.specs.Points.{bits, zeros, zero_joined}

-- whether a coordinate is −0.0
abbrev pub minus_zero : Float → Bool
minus_zero x = eqb (bits32 x) (2 ^ 31)

-- what does not hold of a list holds of neither its first nor the rest
first_not : (x : Float) (xs : List Float) → any minus_zero (x ∷ xs) ≡ false → minus_zero x ≡ false
unfolding any
first_not x xs e = go (minus_zero x) (any minus_zero xs) e
  where
    go : (b c : Bool) → elim b [ true ↦ true | false ↦ c ] ≡ false → b ≡ false
    go true c q = q
    go false c q = refl

rest_not : (x : Float) (xs : List Float) → any minus_zero (x ∷ xs) ≡ false → any minus_zero xs ≡ false
unfolding any
rest_not x xs e = go (minus_zero x) (any minus_zero xs) e
  where
    no : {P : Type 0} → true ≡ false → P
    no {P} q = let z : ◌≡◌ {A = ℕ} 0 1 = cc in absurd (omega arith)

    go : (b c : Bool) → elim b [ true ↦ true | false ↦ c ] ≡ false → c ≡ false
    go true c q = no q
    go false c q = q

-- another number has its own bits
own_bits : (x : Float) → minus_zero x ≡ false → zero_joined (bits32 x) ≡ bits32 x
own_bits x e = ap (λ (b : Bool). cond b 0 (bits32 x)) e

-- Both rules join the same points in a mesh without −0.0.
pub zeros_bits : (ps : List Float) → any minus_zero ps ≡ false → names zeros ps ≡ names bits ps
unfolding names zeros bits
zeros_bits [] e = refl
zeros_bits (x ∷ []) e = refl
zeros_bits (x ∷ y ∷ []) e = refl
zeros_bits (x ∷ y ∷ z ∷ ps) e =
    let e₁ = rest_not x (y ∷ z ∷ ps) e in
    let e₂ = rest_not y (z ∷ ps) e₁ in
    λ i. ((own_bits x (first_not x (y ∷ z ∷ ps) e) i * 2 ^ 32 + own_bits y (first_not y (z ∷ ps) e₁) i) * 2 ^ 32 + own_bits z (first_not z ps e₂) i)
    ∷ zeros_bits ps (rest_not z ps e₂) i
