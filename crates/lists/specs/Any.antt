-- Laws of `any`, `sum_of` and of what holds of each item: over an append, at an item, and as a loop that goes through a list item by item meets them. Assumes nothing.
use Rattle.std.proofs.Math.Path.{◌≡◌, refl, sym, ap}
use Rattle.std.proofs.Common.{◌∙◌, le_of_suc-le-suc, not-suc-le-zero, add-one, drop_of_length-le, drop-cons, take_all, take-suc}
use Rattle.std.specs.Prelude.{Bool, ◌||◌, length, get_or, take, drop, replicate}
use Rattle.std.proofs.Math.Bool.{true, false}
use mathlib.Core.List.{List, [], ◌∷◌, ◌++◌}
use Rattle.std.proofs.Math.Option.{some}
use Prim.Native.Nat.{ℕ, zero, suc, ◌+◌, ◌≤◌, ◌<◌}
use native.Mathlib.Omega.{arith}
use Rattle.lists.specs.Lists.{any, sum_of, item_at}

module _ {A : Type 0} where
  -- one of two lists' items passes
  pub any_append : (f : A → Bool) (xs ys : List A) → any f (xs ++ ys) ≡ (any f xs || any f ys)
  unfolding any
  any_append f [] ys = refl
  any_append f (x ∷ xs) ys = go (f x) (any f (xs ++ ys)) (any f xs) (any_append f xs ys)
    where
      go : (b r s : Bool) → r ≡ (s || any f ys) → elim b [ true ↦ true | false ↦ r ] ≡ (elim b [ true ↦ true | false ↦ s ] || any f ys)
      go true r s e = refl
      go false r s e = e

  -- the one item passes
  pub any_one : (f : A → Bool) (x : A) → any f (x ∷ []) ≡ f x
  unfolding any
  any_one f x = go (f x)
    where
      go : (b : Bool) → elim b [ true ↦ true | false ↦ false ] ≡ b
      go true = refl
      go false = refl

  -- no item passes: none at each place
  pub any_none : (f : A → Bool) (xs : List A) (d : A) → any f xs ≡ false → (k : ℕ) → k < length xs → f (get_or xs k d) ≡ false
  unfolding any
  any_none f [] d e k h = absurd (not-suc-le-zero h)
  any_none f (x ∷ xs) d e zero h = go (f x) (any f xs) e
    where
      go : (b r : Bool) → elim b [ true ↦ true | false ↦ r ] ≡ false → b ≡ false
      go true r q = q
      go false r q = refl
  any_none f (x ∷ xs) d e (suc k) h = any_none f xs d (go (f x) (any f xs) e) k (le_of_suc-le-suc h)
    where
      go : (b r : Bool) → elim b [ true ↦ true | false ↦ r ] ≡ false → r ≡ false
      go true r q = absurd (no q)
        where
          no : true ≡ false → ⊥
          no z = let n : ◌≡◌ {A = ℕ} 0 1 = cc in omega arith
      go false r q = q

  -- item k of a list, where there is one
  pub item_at_lem : (xs : List A) (k : ℕ) (d : A) → k < length xs → item_at xs k ≡ some (get_or xs k d)
  unfolding item_at
  item_at_lem [] k d h = absurd (not-suc-le-zero h)
  item_at_lem (x ∷ xs) zero d h = refl
  item_at_lem (x ∷ xs) (suc k) d h = item_at_lem xs k d (le_of_suc-le-suc h)

  -- a search for an item that passes has passed the first k
  pub record Searched (f : A → Bool) (xs : List A) (k : ℕ) : Type 0 where
    pub low : k ≤ length xs
    pub rest : any f (drop k xs) ≡ any f xs

  -- no item is passed yet
  pub searched_none : (f : A → Bool) (xs : List A) → Searched f xs 0
  searched_none f xs = record { low = omega arith; rest = refl }

  -- item k, and those behind it
  unfolds : (f : A → Bool) (xs : List A) (k : ℕ) (d : A) → k < length xs → any f (drop k xs) ≡ elim (f (get_or xs k d)) [ true ↦ true | false ↦ any f (drop (suc k) xs) ]
  unfolding any
  unfolds f xs k d h = ap (any f) (drop-cons xs k d h)

  -- item k does not pass
  pub searched_more : {f : A → Bool} {xs : List A} {k : ℕ} (d : A) → Searched f xs k → k < length xs → f (get_or xs k d) ≡ false → Searched f xs (k + 1)
  searched_more {f} {xs} {k} d s h e = record {
    low = omega arith;
    rest = ap (λ (j : ℕ). any f (drop j xs)) (add-one k) ∙ sym (unfolds f xs k d h ∙ go (f (get_or xs k d)) e) ∙ s.rest;
  }
    where
      go : (b : Bool) → b ≡ false → elim b [ true ↦ true | false ↦ any f (drop (suc k) xs) ] ≡ any f (drop (suc k) xs)
      go b q = rw q

  -- item k passes
  pub searched_hit : {f : A → Bool} {xs : List A} {k : ℕ} (d : A) → Searched f xs k → k < length xs → f (get_or xs k d) ≡ true → true ≡ any f xs
  searched_hit {f} {xs} {k} d s h e = sym (sym s.rest ∙ unfolds f xs k d h ∙ go (f (get_or xs k d)) e)
    where
      go : (b : Bool) → b ≡ true → elim b [ true ↦ true | false ↦ any f (drop (suc k) xs) ] ≡ true
      go b q = rw q

  -- every item is passed
  pub searched_all : {f : A → Bool} {xs : List A} {k : ℕ} → Searched f xs k → length xs ≤ k → false ≡ any f xs
  unfolding any
  searched_all {f} {xs} {k} s h = sym (ap (any f) (drop_of_length-le xs h)) ∙ s.rest

  -- a look at every item, without a jump, has seen the first k: whether one of them passes
  pub record Looked (f : A → Bool) (xs : List A) (k : ℕ) (found : Bool) : Type 0 where
    pub low : k ≤ length xs
    pub is : found ≡ any f (take k xs)

  -- no item is seen yet
  pub looked_none : (f : A → Bool) (xs : List A) → Looked f xs 0 false
  unfolding any
  looked_none f xs = record { low = omega arith; is = refl }

  -- item k is seen
  pub looked_more : {f : A → Bool} {xs : List A} {k : ℕ} {found b : Bool} (d : A) → Looked f xs k found → k < length xs → b ≡ f (get_or xs k d) → Looked f xs (k + 1) (found || b)
  looked_more {f} {xs} {k} d v h e = record {
    low = omega arith;
    is =
        (λ i. v.is i || e i)
        ∙ ap (λ (t : Bool). any f (take k xs) || t) (sym (any_one f (get_or xs k d)))
        ∙ sym (any_append f (take k xs) (get_or xs k d ∷ []))
        ∙ ap (any f) (sym (ap (λ (n : ℕ). take n xs) (add-one k) ∙ take-suc xs k d h));
  }

  -- every item is seen
  pub looked_all : {f : A → Bool} {xs : List A} {k : ℕ} {found : Bool} → Looked f xs k found → length xs ≤ k → found ≡ any f xs
  looked_all {f} {xs} {k} v h = v.is ∙ ap (any f) (take_all k xs h)

  -- the sum over one item more
  pub sum_more : (f : A → ℕ) (xs : List A) (k : ℕ) (d : A) → k < length xs → sum_of f (take (k + 1) xs) ≡ sum_of f (take k xs) + f (get_or xs k d)
  unfolding sum_of
  sum_more f [] k d h = absurd (not-suc-le-zero h)
  sum_more f (x ∷ xs) zero d h = omega arith
  sum_more f (x ∷ xs) (suc k) d h = rw (add-one (suc k)) (let i = sum_more f xs k d (le_of_suc-le-suc h) in let j = ap (λ (n : ℕ). sum_of f (take n xs)) (add-one k) in omega arith)

  -- the sum over a front is at most the whole
  pub sum_front : (f : A → ℕ) (xs : List A) (k : ℕ) → sum_of f (take k xs) ≤ sum_of f xs
  unfolding sum_of
  sum_front f [] zero = omega arith
  sum_front f [] (suc k) = omega arith
  sum_front f (x ∷ xs) zero = omega arith
  sum_front f (x ∷ xs) (suc k) = let i = sum_front f xs k in omega arith

  -- the sum over a front and the item behind it is at most the whole
  pub sum_room : (f : A → ℕ) (xs : List A) (k : ℕ) (d : A) → k < length xs → sum_of f (take k xs) + f (get_or xs k d) ≤ sum_of f xs
  sum_room f xs k d h = omega (arith, sum_more f xs k d h, sum_front f xs (k + 1))

  -- the sum over all items
  pub sum_all : (f : A → ℕ) (xs : List A) (k : ℕ) → length xs ≤ k → sum_of f (take k xs) ≡ sum_of f xs
  sum_all f xs k h = ap (sum_of f) (take_all k xs h)

  -- what holds of each item of two lists holds of each of both
  pub each_append : (Q : A → Type 0) (d : A) (xs ys : List A) → ((i : ℕ) → i < length xs → Q (get_or xs i d)) → ((i : ℕ) → i < length ys → Q (get_or ys i d))
      → (i : ℕ) → i < length (xs ++ ys) → Q (get_or (xs ++ ys) i d)
  each_append Q d [] ys f g i h = g i h
  each_append Q d (x ∷ xs) ys f g zero h = f 0 (omega arith)
  each_append Q d (x ∷ xs) ys f g (suc i) h = each_append Q d xs ys (λ k l. f (suc k) (omega arith)) g i (le_of_suc-le-suc h)

  -- and what holds of one item holds of each of its copies
  pub each_copy : (Q : A → Type 0) (d x : A) (n : ℕ) → Q x → (i : ℕ) → i < length (replicate n x) → Q (get_or (replicate n x) i d)
  each_copy Q d x zero q i h = absurd (not-suc-le-zero h)
  each_copy Q d x (suc n) q zero h = q
  each_copy Q d x (suc n) q (suc i) h = each_copy Q d x n q i (le_of_suc-le-suc h)
