-- Numbers inserted one by one into rising ones: they rise, and are the same numbers. Assumes nothing.
use Rattle.std.specs.Prelude.{◌≡◌, refl, Bool, true, false, not, cond, List, [], ◌∷◌, ◌++◌, ℕ, zero, suc, ◌+◌, ◌≤◌, ◌<◌, length, get_or, ltb, T}
use Rattle.std.proofs.Common.{ap, ◌∙◌, arith, ltb→lt, nltb→le}
use Rattle.lists.specs.Lists.{count_if}
use Rattle.lists.specs.Each.{Each, each_then, each_at}
use Rattle.slice_pairs.specs.Rearranged.{Rearranged}
use Rattle.slice_pairs.specs.Rising.{Rises}

-- a number in front of the first that is above it
unfoldable pub insert_number : ℕ → List ℕ → List ℕ
insert_number x [] = x ∷ []
insert_number x (y ∷ ys) = elim (ltb x y) [ true ↦ x ∷ y ∷ ys | false ↦ y ∷ insert_number x ys ]

-- numbers inserted one by one
unfoldable pub insert_numbers : List ℕ → List ℕ → List ℕ
insert_numbers C [] = C
insert_numbers C (x ∷ xs) = insert_numbers (insert_number x C) xs

-- those of two lists
pub numbers_append : (C xs ys : List ℕ) → insert_numbers C (xs ++ ys) ≡ insert_numbers (insert_numbers C xs) ys
unfolding insert_numbers
numbers_append C [] ys = refl
numbers_append C (x ∷ xs) ys = numbers_append (insert_number x C) xs ys

-- ---- what holds of each

pub each_number : (Q : ℕ → Type 0) (x : ℕ) (C : List ℕ) → Q x → Each Q C → Each Q (insert_number x C)
unfolding insert_number
each_number Q x [] q e = (q, tt)
each_number Q x (y ∷ C) q e = go (ltb x y) (each_number Q x C q e.1)
  where
    go : (b : Bool) → Each Q (insert_number x C) → Each Q (elim b [ true ↦ x ∷ y ∷ C | false ↦ y ∷ insert_number x C ])
    go true r = (q, e)
    go false r = (e.0, r)

-- What holds of each number before holds of each inserted.
pub each_inserted : (Q : ℕ → Type 0) (C xs : List ℕ) → Each Q C → Each Q xs → Each Q (insert_numbers C xs)
unfolding insert_numbers
each_inserted Q C [] c e = c
each_inserted Q C (x ∷ xs) c e = each_inserted Q (insert_number x C) xs (each_number Q x C e.0 c) e.1

-- ---- they rise

-- no number is above a later one
abbrev Ordered : List ℕ → Type 0
Ordered [] = Unit {0}
Ordered (x ∷ xs) = Each (λ y. x ≤ y) xs × Ordered xs

ordered_number : (x : ℕ) (C : List ℕ) → Ordered C → Ordered (insert_number x C)
unfolding insert_number
ordered_number x [] o = (tt, tt)
ordered_number x (y ∷ C) o = go (ltb x y) (ltb→lt x y) (nltb→le x y) (ordered_number x C o.1)
  where
    go : (b : Bool) → (T b → x < y) → (T (not b) → y ≤ x) → Ordered (insert_number x C) → Ordered (elim b [ true ↦ x ∷ y ∷ C | false ↦ y ∷ insert_number x C ])
    go true l g r = let h : x < y = l tt in ((omega arith, each_then (λ z. y ≤ z) (λ z. x ≤ z) (λ z k. omega arith) C o.0), o)
    go false l g r = (each_number (λ z. y ≤ z) x C (g tt) o.0, r)

ordered_inserted : (C xs : List ℕ) → Ordered C → Ordered (insert_numbers C xs)
unfolding insert_numbers
ordered_inserted C [] o = o
ordered_inserted C (x ∷ xs) o = ordered_inserted (insert_number x C) xs (ordered_number x C o)

ordered_up : (xs : List ℕ) → Ordered xs → (i j : ℕ) → i < j → j < length xs → get_or xs i 0 ≤ get_or xs j 0
ordered_up [] o i j l h = absurd (omega arith)
ordered_up (x ∷ xs) o i zero l h = absurd (omega arith)
ordered_up (x ∷ xs) o zero (suc j) l h = each_at (λ y. x ≤ y) xs j 0 (omega arith) o.0
ordered_up (x ∷ xs) o (suc i) (suc j) l h = ordered_up xs o.1 i j (omega arith) (omega arith)

-- Numbers inserted one by one rise.
pub inserted_rises : (xs : List ℕ) → Rises (insert_numbers [] xs)
inserted_rises xs = record { up = ordered_up (insert_numbers [] xs) (ordered_inserted [] xs tt) }

-- ---- they are the same numbers

-- how many pass with one more
abbrev counted : Bool → ℕ → ℕ
counted b n = cond b (suc n) n

counted_turned : (a b : Bool) (n : ℕ) → counted a (counted b n) ≡ counted b (counted a n)
counted_turned true true n = refl
counted_turned true false n = refl
counted_turned false true n = refl
counted_turned false false n = refl

count_number : (p : ℕ → Bool) (x : ℕ) (C : List ℕ) → count_if p (insert_number x C) ≡ counted (p x) (count_if p C)
unfolding insert_number count_if
count_number p x [] = refl
count_number p x (y ∷ C) = go (ltb x y) (count_number p x C)
  where
    go : (b : Bool) → count_if p (insert_number x C) ≡ counted (p x) (count_if p C)
        → count_if p (elim b [ true ↦ x ∷ y ∷ C | false ↦ y ∷ insert_number x C ]) ≡ counted (p x) (counted (p y) (count_if p C))
    go true e = refl
    go false e = ap (counted (p y)) e ∙ counted_turned (p y) (p x) (count_if p C)

count_inserted : (p : ℕ → Bool) (C xs : List ℕ) → count_if p (insert_numbers C xs) ≡ count_if p C + count_if p xs
unfolding insert_numbers count_if
count_inserted p C [] = omega arith
count_inserted p C (x ∷ xs) = count_inserted p (insert_number x C) xs ∙ ap (λ (n : ℕ). n + count_if p xs) (count_number p x C) ∙ go (p x) (count_if p C) (count_if p xs)
  where
    go : (b : Bool) (m n : ℕ) → counted b m + n ≡ m + counted b n
    go true m n = omega arith
    go false m n = refl

-- Numbers inserted one by one are the same numbers.
pub inserted_same : (xs : List ℕ) → Rearranged (insert_numbers [] xs) xs
unfolding count_if
inserted_same xs = record { same = λ p. count_inserted p [] xs ∙ nothing (count_if p xs) }
  where
    nothing : (n : ℕ) → 0 + n ≡ n
    nothing n = omega arith
