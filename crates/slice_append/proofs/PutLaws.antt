-- Items written to a slice one by one. Assumes nothing.
use mathlib.Core.Path.{◌≡◌, refl, sym, ap, ◌∙◌}
use mathlib.Core.List.{List, [], ◌∷◌}
use Prim.Native.Nat.{ℕ, ◌+◌, ◌<◌, ◌≤◌}
use native.Mathlib.Nat.{le_antisymm}
use native.Mathlib.Numerals.{add-one}
use native.Mathlib.Omega.{arith}
use lib.ListN.{length, get_or, take, set, length-set}
use lib.Seq.{sets, take-suc, length-take-le, take-length}
use Rattle.lists.specs.Sets.{sets_append}

module _ {A : Type 0} where
  -- the first k items are written from place o on: old became ys
  pub record Putting (xs old : List A) (o k : ℕ) (ys : List A) : Type 0 where
    pub low : k ≤ length xs
    pub list : ys ≡ sets old o (take k xs)
    pub long : length ys ≡ length old

  -- none is written yet
  pub putting_none : (xs old : List A) (o : ℕ) → Putting xs old o 0 old
  putting_none xs old o = record { low = omega arith; list = refl; long = refl }

  -- the item that follows
  put_next : (xs old : List A) (o k : ℕ) (d : A) → k < length xs → set (sets old o (take k xs)) (o + k) (get_or xs k d) ≡ sets old o (take (k + 1) xs)
  put_next xs old o k d h =
      let x = get_or xs k d in
      let done = take k xs in
      ap (λ (j : ℕ). set (sets old o done) (o + j) x) (sym (length-take-le k xs (omega arith)))
      ∙ sym (sets_append old o done (x ∷ []))
      ∙ ap (sets old o) (sym (take-suc xs k d h) ∙ ap (λ (j : ℕ). take j xs) (sym (add-one k)))

  -- one more is
  pub putting_more : {xs old ys : List A} {o k : ℕ} (d : A) → Putting xs old o k ys → k < length xs → Putting xs old o (k + 1) (set ys (o + k) (get_or xs k d))
  putting_more {xs} {old} {ys} {o} {k} d c h =
      record {
        low = omega arith;
        list = ap (λ (v : List A). set v (o + k) (get_or xs k d)) c.list ∙ put_next xs old o k d h;
        long = simp length-set c.long;
      }

  -- all are
  pub putting_all : {xs old ys : List A} {o k : ℕ} → Putting xs old o k ys → length xs ≤ k → ys ≡ sets old o xs
  putting_all {xs} {old} {o = o} c h = c.list ∙ ap (sets old o) (ap (λ (j : ℕ). take j xs) (le_antisymm c.low h) ∙ take-length xs)
