-- Row k's place in a lent list. Assumes nothing.
use Rattle.std.specs.Prelude.{◌≡◌, refl, List, [], ◌∷◌, ℕ, zero, suc, ◌+◌, ◌*◌, ◌/◌, ◌<◌, ℤ, pos, length, get_or, drop}
use Rattle.std.proofs.Common.{ap, ◌∙◌, arith}
use Rattle.plan_definition.specs.Places.{Place}
use Rattle.peg_definition.specs.Peg.{places_of}

-- the place of row k
abbrev pub place_at : List ℤ → ℕ → Place
place_at list k = record { x = get_or list (3 * k) (pos 0); y = get_or list (3 * k + 1) (pos 0); z = get_or list (3 * k + 2) (pos 0) }

-- the places of a list from row k's on begin with it
pub places_here : (list : List ℤ) (k : ℕ) → 3 * k + 2 < length list → drop k (places_of list) ≡ place_at list k ∷ drop (suc k) (places_of list)
unfolding places_of
places_here [] k h = absurd (omega arith)
places_here (x ∷ []) k h = absurd (omega arith)
places_here (x ∷ y ∷ []) k h = absurd (omega arith)
places_here (x ∷ y ∷ z ∷ ns) zero h = refl
places_here (x ∷ y ∷ z ∷ ns) (suc k) h =
    places_here ns k (omega arith)
    ∙ ap (λ (p : Place). p ∷ drop (suc k) (places_of ns)) (λ j. record { x = get_or (x ∷ y ∷ z ∷ ns) (e0 j) (pos 0); y = get_or (x ∷ y ∷ z ∷ ns) (e1 j) (pos 0); z = get_or (x ∷ y ∷ z ∷ ns) (e2 j) (pos 0) })
  where
    e0 : suc (suc (suc (3 * k))) ≡ 3 * suc k
    e0 = omega arith

    e1 : suc (suc (suc (3 * k + 1))) ≡ 3 * suc k + 1
    e1 = omega arith

    e2 : suc (suc (suc (3 * k + 2))) ≡ 3 * suc k + 2
    e2 = omega arith

-- three numbers are a place
pub places_length : (list : List ℤ) → length (places_of list) ≡ length list / 3
unfolding places_of
places_length [] = refl
places_length (x ∷ []) = refl
places_length (x ∷ y ∷ []) = refl
places_length (x ∷ y ∷ z ∷ ns) = let e = places_length ns in omega arith
