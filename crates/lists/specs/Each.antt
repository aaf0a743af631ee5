-- What holds of each item of a list. Assumes nothing.
use Rattle.std.specs.Prelude.{◌≡◌, Bool, cond, ℕ, zero, suc, ◌<◌, length, get_or}
use Rattle.std.proofs.Math.Path.{refl}
use Rattle.std.proofs.Math.Bool.{true, false}
use mathlib.Core.List.{List, [], ◌∷◌, ◌++◌}
use Rattle.std.proofs.Common.{le_of_suc-le-suc, not-suc-le-zero, arith}
use Rattle.lists.specs.Lists.{filter}

module _ {A : Type 0} where
  -- Q holds of each item
  abbrev pub Each : (A → Type 0) → List A → Type 0
  Each Q [] = Unit {0}
  Each Q (x ∷ xs) = Q x × Each Q xs

  -- of those that pass, what holds of those that pass
  pub each_filter : (Q R : A → Type 0) (p : A → Bool) → ((x : A) → p x ≡ true → Q x → R x) → (xs : List A) → Each Q xs → Each R (filter p xs)
  unfolding filter
  each_filter Q R p f [] e = tt
  each_filter Q R p f (x ∷ xs) e = go (p x) refl (each_filter Q R p f xs e.1)
    where
      go : (b : Bool) → p x ≡ b → Each R (filter p xs) → Each R (cond b (x ∷ filter p xs) (filter p xs))
      go true h r = (f x h e.0, r)
      go false h r = r

  -- of two lists
  pub each_both : (Q : A → Type 0) (xs ys : List A) → Each Q xs → Each Q ys → Each Q (xs ++ ys)
  each_both Q [] ys e f = f
  each_both Q (x ∷ xs) ys e f = (e.0, each_both Q xs ys e.1 f)

  -- what holds of every item
  pub each_all : (Q : A → Type 0) → ((x : A) → Q x) → (xs : List A) → Each Q xs
  each_all Q f [] = tt
  each_all Q f (x ∷ xs) = (f x, each_all Q f xs)

  -- what follows
  pub each_then : (Q R : A → Type 0) → ((x : A) → Q x → R x) → (xs : List A) → Each Q xs → Each R xs
  each_then Q R f [] e = tt
  each_then Q R f (x ∷ xs) e = (f x e.0, each_then Q R f xs e.1)

  -- of the item at a place
  pub each_at : (Q : A → Type 0) (xs : List A) (i : ℕ) (d : A) → i < length xs → Each Q xs → Q (get_or xs i d)
  each_at Q [] i d h e = absurd (not-suc-le-zero h)
  each_at Q (x ∷ xs) zero d h e = e.0
  each_at Q (x ∷ xs) (suc i) d h e = each_at Q xs i d (le_of_suc-le-suc h) e.1

  -- and so of each
  pub at_each : (Q : A → Type 0) (xs : List A) (d : A) → ((i : ℕ) → i < length xs → Q (get_or xs i d)) → Each Q xs
  at_each Q [] d f = tt
  at_each Q (x ∷ xs) d f = (f 0 (omega arith), at_each Q xs d (λ i h. f (suc i) (omega arith)))
