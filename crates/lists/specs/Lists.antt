-- What the definitions ask of a list. Assumes nothing.
use Rattle.std.specs.Prelude.{Bool, true, false, cond, List, [], ◌∷◌, ◌++◌, ℕ, zero, suc, ◌+◌, length, drop, ltb, eqb}
use Rattle.std.proofs.Math.Option.{Option, none, some}

module _ {A : Type 0} where
  -- whether one of the items passes
  unfoldable pub any : (A → Bool) → List A → Bool
  any f [] = false
  any f (x ∷ xs) = elim (f x) [ true ↦ true | false ↦ any f xs ]

  -- whether every item passes
  unfoldable pub all : (A → Bool) → List A → Bool
  all f [] = true
  all f (x ∷ xs) = elim (f x) [ true ↦ all f xs | false ↦ false ]

  -- how many pass
  unfoldable pub count_if : (A → Bool) → List A → ℕ
  count_if f [] = 0
  count_if f (x ∷ xs) = let n = count_if f xs in cond (f x) (suc n) n

  -- those that pass, in their order
  unfoldable pub filter : (A → Bool) → List A → List A
  filter f [] = []
  filter f (x ∷ xs) = let ys = filter f xs in cond (f x) (x ∷ ys) ys

  -- the numbers of the items, added
  unfoldable pub sum_of : (A → ℕ) → List A → ℕ
  sum_of f [] = 0
  sum_of f (x ∷ xs) = f x + sum_of f xs

  -- what the items have, of those that have something
  unfoldable pub filter_map {κ} : {B : Type κ} → (A → Option B) → List A → List B
  filter_map f [] = []
  filter_map f (x ∷ xs) = elim (f x) [ none ↦ filter_map f xs | some y ↦ y ∷ filter_map f xs ]

  -- item i, if there is one
  unfoldable pub item_at : List A → ℕ → Option A
  item_at [] i = none
  item_at (x ∷ xs) zero = some x
  item_at (x ∷ xs) (suc i) = item_at xs i

  -- Output beyond the written part is unchanged: a slice that held `old`, after xs was written to its front.
  unfoldable pub written : List A → List A → List A
  written xs old = xs ++ drop (length xs) old

-- a number into an ascending list, once
unfoldable pub insert_new : ℕ → List ℕ → List ℕ
insert_new n [] = n ∷ []
insert_new n (x ∷ xs) = let rest = x ∷ insert_new n xs in cond (ltb n x) (n ∷ x ∷ xs) (cond (eqb n x) (x ∷ xs) rest)

-- numbers in ascending order, each once
unfoldable pub ascending : List ℕ → List ℕ
ascending [] = []
ascending (n ∷ ns) = insert_new n (ascending ns)
