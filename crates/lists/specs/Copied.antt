-- A slice that a list is copied into, item by item: what is copied, and what is as it was. Assumes nothing.
use mathlib.Core.List.{List, ◌++◌}
use Rattle.std.specs.Prelude.{◌≡◌, refl, ℕ, ◌+◌, ◌≤◌, ◌<◌, length, get_or, set}
use Rattle.std.proofs.Common.{sym, ◌∙◌, zero-add, le_antisymm, add-one, arith, drop_of_length-le, length-set, take_all}
use Rattle.std.proofs.Math.Path.{ap, subst}
use Rattle.std.proofs.Math.ListN.{take, drop}
use Rattle.std.proofs.Math.Seq.{paste-suc, take-length}
use Rattle.lists.specs.Lists.{written}

module _ {A : Type 0} where
  -- the first i items of xs are copied to the front of `old`, which became ys
  pub record Copied (xs old ys : List A) (i : ℕ) : Type 0 where
    pub inside : i ≤ length xs
    pub beside : i ≤ length old
    pub list : ys ≡ take i xs ++ drop i old
    pub long : length ys ≡ length old

  -- none is copied yet
  pub copied_none : (xs old : List A) → Copied xs old old 0
  copied_none xs old = record { inside = omega arith; beside = omega arith; list = refl; long = refl }

  -- the item that follows
  next_item : (xs old : List A) (i : ℕ) (d : A) → i < length old → i < length xs → set (take i xs ++ drop i old) i (get_or xs i d) ≡ take (i + 1) xs ++ drop (i + 1) old
  next_item xs old i d r h = rw add-one (simp zero-add at (paste-suc old 0 xs i d (omega arith) h))

  module _ {xs old ys : List A} {i : ℕ} (c : Copied xs old ys i) where
    -- one item more
    pub copied_more : (d : A) → i < length xs → i < length ys → Copied xs old (set ys i (get_or xs i d)) (i + 1)
    copied_more d h l =
        record {
          inside = omega arith;
          beside = omega (arith, c.long);
          list = ap (λ (zs : List A). set zs i (get_or xs i d)) c.list ∙ next_item xs old i d (omega (arith, c.long)) h;
          long = length-set ys i (get_or xs i d) ∙ c.long;
        }

    -- all are copied
    pub copied_written : length xs ≤ i → ys ≡ written xs old
    unfolding written
    copied_written h = subst (λ (j : ℕ). ys ≡ take j xs ++ drop j old) (le_antisymm c.inside h) c.list ∙ ap (λ (zs : List A). zs ++ drop (length xs) old) (take-length xs)

    -- all are copied, of as many as there was room for
    pub copied_all : length xs ≤ i → ys ≡ take (length old) xs ++ drop (length xs) old
    unfolding written
    copied_all h = copied_written h ∙ ap (λ (zs : List A). zs ++ drop (length xs) old) (sym (take_all (length old) xs (omega (arith, c.beside))))

    -- the slice is full
    pub copied_full : i < length xs → length ys ≤ i → ys ≡ take (length old) xs ++ drop (length xs) old
    copied_full l h =
        let e : i ≡ length old = omega (arith, c.beside, c.long) in
        let here : length old ≤ i = omega arith in
        let there : length old ≤ length xs = omega arith in
        c.list
        ∙ ap (λ (n : ℕ). take n xs ++ drop i old) e
        ∙ ap (λ (zs : List A). take (length old) xs ++ zs) (drop_of_length-le old here ∙ sym (drop_of_length-le old there))
