-- Laws of `filter`, `filter_map` and `count_if`: over an append, over a `map`, over one another, and of functions that agree. Assumes nothing.
use Rattle.std.specs.Prelude.{◌≡◌, Bool}
use Rattle.std.proofs.Math.Path.{refl, ap}
use Rattle.std.proofs.Math.Bool.{true, false, cond}
use mathlib.Core.List.{List, [], ◌∷◌, ◌++◌, map}
use Rattle.std.proofs.Math.Option.{Option, none, some}
use Prim.Native.Nat.{suc}
use Rattle.std.proofs.Math.ListN.{length}
use Rattle.lists.specs.Lists.{count_if, filter, filter_map}

-- what a function makes of the item, if there is one
abbrev pub map_option : {A B : Type 0} → (A → B) → Option A → Option B
map_option f none = none
map_option f (some x) = some (f x)

module _ {A : Type 0} where
  -- tests that agree pass the same items
  pub filter_same : (p q : A → Bool) → ((x : A) → p x ≡ q x) → (xs : List A) → filter p xs ≡ filter q xs
  filter_same p q e xs = λ i. filter (λ x. e x i) xs

  -- nothing passes
  pub filter_none : (xs : List A) → filter (λ x. false) xs ≡ []
  unfolding filter
  filter_none [] = refl
  filter_none (x ∷ xs) = filter_none xs

  -- as many pass as are counted
  pub filter_length : (p : A → Bool) (xs : List A) → length (filter p xs) ≡ count_if p xs
  unfolding filter count_if
  filter_length p [] = refl
  filter_length p (x ∷ xs) = go (p x) (filter_length p xs)
    where
      go : (b : Bool) → length (filter p xs) ≡ count_if p xs → length (cond b (x ∷ filter p xs) (filter p xs)) ≡ cond b (suc (count_if p xs)) (count_if p xs)
      go true e = ap suc e
      go false e = e

module _ {A B : Type 0} where
  -- a test of what a function makes
  pub filter_map_lem : (p : B → Bool) (f : A → B) (xs : List A) → filter p (map f xs) ≡ map f (filter (λ x. p (f x)) xs)
  unfolding filter
  filter_map_lem p f [] = refl
  filter_map_lem p f (x ∷ xs) = go (p (f x)) (filter_map_lem p f xs)
    where
      go : (b : Bool) → filter p (map f xs) ≡ map f (filter (λ x. p (f x)) xs)
          → cond b (f x ∷ filter p (map f xs)) (filter p (map f xs)) ≡ map f (cond b (x ∷ filter (λ x. p (f x)) xs) (filter (λ x. p (f x)) xs))
      go true e = ap (λ (l : List B). f x ∷ l) e
      go false e = e

  -- what the items of two lists have
  pub filter_map_append : (f : A → Option B) (xs ys : List A) → filter_map f (xs ++ ys) ≡ filter_map f xs ++ filter_map f ys
  unfolding filter_map
  filter_map_append f [] ys = refl
  filter_map_append f (x ∷ xs) ys = go (f x) (filter_map_append f xs ys)
    where
      go : (o : Option B) → filter_map f (xs ++ ys) ≡ filter_map f xs ++ filter_map f ys
          → elim o [ none ↦ filter_map f (xs ++ ys) | some y ↦ y ∷ filter_map f (xs ++ ys) ] ≡ elim o [ none ↦ filter_map f xs | some y ↦ y ∷ filter_map f xs ] ++ filter_map f ys
      go none e = e
      go (some y) e = ap (λ (l : List B). y ∷ l) e

-- what items have, by way of other items
pub filter_map_map : {A B C D : Type 0} (f : B → Option D) (g : A → B) (h : A → Option C) (k : C → D) → ((x : A) → f (g x) ≡ map_option k (h x))
    → (xs : List A) → filter_map f (map g xs) ≡ map k (filter_map h xs)
unfolding filter_map
filter_map_map f g h k e [] = refl
filter_map_map {A} {B} {C} {D} f g h k e (x ∷ xs) = rw (e x) (go (h x) (filter_map_map f g h k e xs))
  where
    go : (o : Option C) → filter_map f (map g xs) ≡ map k (filter_map h xs)
        → elim (map_option k o) [ none ↦ filter_map f (map g xs) | some y ↦ y ∷ filter_map f (map g xs) ] ≡ map k (elim o [ none ↦ filter_map h xs | some y ↦ y ∷ filter_map h xs ])
    go none r = r
    go (some y) r = ap (λ (l : List D). k y ∷ l) r
