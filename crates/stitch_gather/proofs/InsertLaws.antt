-- Laws of inserting a vertex by name: its names rise, and it is one more or replaces one. Assumes nothing.
use mathlib.Core.Path.{◌≡◌, refl, sym, ap, ◌∙◌}
use mathlib.Core.Logic.{inl, inr}
use mathlib.Core.Bool.{Bool, true, false, cond}
use mathlib.Core.List.{List, [], ◌∷◌, map}
use Prim.Native.Nat.{ℕ, zero, suc, ◌+◌, ◌<◌}
use native.Mathlib.Omega.{arith}
use lib.ListN.{length, get_or, set}
use lib.Dec.{ltb, eqb}
use borrow.Author.Tests.{eq-eqb, eqb-true, eqb-false, ltb-true}
use Rattle.lists.specs.Lists.{count_if, insert_new}
use Rattle.lists.specs.Members.{Has}
use Rattle.lists.specs.Rising.{Rising, rising_has}
use Rattle.slice_pairs.specs.Rearranged.{Rearranged, one_if, count_cons}
use Rattle.stitch_loose_points.specs.Listed.{insert_vertex}
use Rattle.stitch_gather.specs.Standing.{names_of}

-- ---- items and their counts

-- an item of a list stays one of what a function makes of it
pub has_map : (f : ℕ → ℕ) (y : ℕ) (xs : List ℕ) → Has y xs → Has (f y) (map f xs)
has_map f y [] h = absurd h
has_map f y (x ∷ xs) (inl e) = inl (ap f e)
has_map f y (x ∷ xs) (inr h) = inr (has_map f y xs h)

-- a number that is there is counted
has_count : (y : ℕ) (xs : List ℕ) → Has y xs → 0 < count_if (eqb y) xs
has_count y [] h = absurd h
has_count y (x ∷ xs) (inl e) = omega (arith, count_cons (eqb y) x xs, ap one_if (eq-eqb y x e))
has_count y (x ∷ xs) (inr h) = omega (arith, count_cons (eqb y) x xs, has_count y xs h)

-- one that is counted is there
count_has : (y : ℕ) (xs : List ℕ) → 0 < count_if (eqb y) xs → Has y xs
unfolding count_if
count_has y [] h = absurd (omega arith)
count_has y (x ∷ xs) h = go (eqb y x) refl h (count_has y xs)
  where
    go : (b : Bool) → eqb y x ≡ b → 0 < cond b (suc (count_if (eqb y) xs)) (count_if (eqb y) xs) → (0 < count_if (eqb y) xs → Has y xs) → Has y (x ∷ xs)
    go true e l f = inl (eqb-true y x e)
    go false e l f = inr (f l)

-- lists of the same items have the same numbers
pub same_has : {xs ys : List ℕ} (y : ℕ) → Rearranged xs ys → Has y xs → Has y ys
same_has {xs} {ys} y r h = count_has y ys (omega (arith, r.same (eqb y), has_count y xs h))

-- an item in place of another
pub count_put : (p : ℕ → Bool) (xs : List ℕ) (i g : ℕ) → i < length xs → one_if (p (get_or xs i 0)) + count_if p (set xs i g) ≡ one_if (p g) + count_if p xs
count_put p [] i g l = absurd (omega arith)
count_put p (x ∷ xs) zero g l = omega (arith, count_cons p g xs, count_cons p x xs)
count_put p (x ∷ xs) (suc i) g l = omega (arith, count_cons p x (set xs i g), count_cons p x xs, count_put p xs i g (omega arith))

-- ---- a vertex inserted by name

module _ (ns : List ℕ) (g : ℕ) where
  -- its name is among the names, once
  pub names_insert : (R : List ℕ) → names_of ns (insert_vertex ns g R) ≡ insert_new (get_or ns g 0) (names_of ns R)
  unfolding insert_vertex insert_new
  names_insert [] = refl
  names_insert (x ∷ xs) = go (ltb (get_or ns g 0) (get_or ns x 0)) (eqb (get_or ns g 0) (get_or ns x 0)) refl (names_insert xs)
    where
      go : (b c : Bool) → eqb (get_or ns g 0) (get_or ns x 0) ≡ c → names_of ns (insert_vertex ns g xs) ≡ insert_new (get_or ns g 0) (names_of ns xs)
          → names_of ns (cond b (g ∷ x ∷ xs) (cond c (g ∷ xs) (x ∷ insert_vertex ns g xs)))
          ≡ cond b (get_or ns g 0 ∷ get_or ns x 0 ∷ names_of ns xs) (cond c (get_or ns x 0 ∷ names_of ns xs) (get_or ns x 0 ∷ insert_new (get_or ns g 0) (names_of ns xs)))
      go true c e h = refl
      go false true e h = ap (λ (n : ℕ). n ∷ names_of ns xs) (eqb-true (get_or ns g 0) (get_or ns x 0) e)
      go false false e h = ap (λ (l : List ℕ). get_or ns x 0 ∷ l) h

  -- where none has its name it is one more
  pub count_new : (p : ℕ → Bool) (R : List ℕ) → (Has (get_or ns g 0) (names_of ns R) → ⊥) → count_if p (insert_vertex ns g R) ≡ one_if (p g) + count_if p R
  unfolding insert_vertex
  count_new p [] none = count_cons p g []
  count_new p (x ∷ xs) none = go (ltb (get_or ns g 0) (get_or ns x 0)) (eqb (get_or ns g 0) (get_or ns x 0)) refl (count_new p xs (λ h. none (inr h)))
    where
      go : (b c : Bool) → eqb (get_or ns g 0) (get_or ns x 0) ≡ c → count_if p (insert_vertex ns g xs) ≡ one_if (p g) + count_if p xs
          → count_if p (cond b (g ∷ x ∷ xs) (cond c (g ∷ xs) (x ∷ insert_vertex ns g xs))) ≡ one_if (p g) + count_if p (x ∷ xs)
      go true c e h = count_cons p g (x ∷ xs)
      go false true e h = absurd (none (inl (eqb-true (get_or ns g 0) (get_or ns x 0) e)))
      go false false e h = omega (arith, count_cons p x (insert_vertex ns g xs), count_cons p x xs)

  module _ (old : ℕ) (name : get_or ns old 0 ≡ get_or ns g 0) where
    -- a vertex behind one has a higher name
    behind : (x : ℕ) (xs : List ℕ) → Rising (suc (get_or ns x 0)) (names_of ns xs) → Has old xs → get_or ns x 0 < get_or ns g 0
    behind x xs r h = omega (arith, rising_has (get_or ns old 0) (suc (get_or ns x 0)) (names_of ns xs) r (has_map (λ (y : ℕ). get_or ns y 0) old xs h))

    -- where one of its name stands it replaces that
    pub count_same : (p : ℕ → Bool) (low : ℕ) (R : List ℕ) → Rising low (names_of ns R) → Has old R → one_if (p old) + count_if p (insert_vertex ns g R) ≡ one_if (p g) + count_if p R
    unfolding insert_vertex
    count_same p low [] r h = absurd h
    count_same p low (x ∷ xs) r h =
        go (ltb (get_or ns g 0) (get_or ns x 0)) refl (eqb (get_or ns g 0) (get_or ns x 0)) refl h (λ k. count_same p (suc (get_or ns x 0)) xs r.1 k)
      where
        Step : Bool → Bool → Type 0
        Step b c = one_if (p old) + count_if p (cond b (g ∷ x ∷ xs) (cond c (g ∷ xs) (x ∷ insert_vertex ns g xs))) ≡ one_if (p g) + count_if p (x ∷ xs)

        go : (b : Bool) → ltb (get_or ns g 0) (get_or ns x 0) ≡ b → (c : Bool) → eqb (get_or ns g 0) (get_or ns x 0) ≡ c → Has old (x ∷ xs)
            → (Has old xs → one_if (p old) + count_if p (insert_vertex ns g xs) ≡ one_if (p g) + count_if p xs) → Step b c
        go true d c e (inl k) f = absurd (omega (arith, ltb-true (get_or ns g 0) (get_or ns x 0) d, ap (λ (y : ℕ). get_or ns y 0) k, name))
        go true d c e (inr k) f = absurd (omega (arith, ltb-true (get_or ns g 0) (get_or ns x 0) d, behind x xs r.1 k))
        go false d true e (inl k) f = omega (arith, ap (λ (y : ℕ). one_if (p y)) k, count_cons p g xs, count_cons p x xs)
        go false d true e (inr k) f = absurd (omega (arith, eqb-true (get_or ns g 0) (get_or ns x 0) e, behind x xs r.1 k))
        go false d false e (inl k) f = absurd (eqb-false (get_or ns g 0) (get_or ns x 0) e (sym name ∙ ap (λ (y : ℕ). get_or ns y 0) k))
        go false d false e (inr k) f = omega (arith, f k, count_cons p x (insert_vertex ns g xs), count_cons p x xs)
