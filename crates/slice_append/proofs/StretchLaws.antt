-- A stretch written to a slice item by item, each item changed or not. Assumes nothing.
use mathlib.Core.Path.{◌≡◌, refl, sym, ap, ◌∙◌}
use mathlib.Core.List.{List, [], ◌∷◌, map, map-append}
use Prim.Native.Nat.{ℕ, ◌+◌, ◌-◌, ◌<◌, ◌≤◌}
use native.Mathlib.Nat.{le_antisymm}
use native.Mathlib.Numerals.{add-one}
use native.Mathlib.Omega.{arith}
use lib.ListN.{length, get_or, take, drop, set, length-set, length-drop, length-map}
use lib.Seq.{sets, take-suc, length-take-le, get_or-drop}
use Rattle.lists.specs.Sets.{sets_append}
use Rattle.slice_append.specs.Appended.{Appended, appended_sets}
use Rattle.slice_append.specs.Ready.{MovedReady}

module _ {A B : Type 0} (f : A → B) where
  -- the first k items of the stretch are written, each changed by f: old became ys
  pub record Stretching (from : List A) (start end o : ℕ) (old : List B) (k : ℕ) (ys : List B) : Type 0 where
    pub low : k ≤ end - start
    pub list : ys ≡ sets old o (map f (take k (drop start from)))
    pub long : length ys ≡ length old

  -- none is written yet
  pub stretching_none : (from : List A) (start end o : ℕ) (old : List B) → Stretching from start end o old 0 old
  stretching_none from start end o old = record { low = omega arith; list = refl; long = refl }

  -- a stretch of k items has k
  stretch_long : (from : List A) (start k : ℕ) → start + k ≤ length from → length (map f (take k (drop start from))) ≡ k
  stretch_long from start k h = length-map (take k (drop start from)) f ∙ length-take-le k (drop start from) (omega (arith, length-drop start from))

  -- the item that follows
  stretch_next : (from : List A) (old : List B) (start o k : ℕ) (d : A) → start + k < length from
      → set (sets old o (map f (take k (drop start from)))) (o + k) (f (get_or from (start + k) d)) ≡ sets old o (map f (take (k + 1) (drop start from)))
  stretch_next from old start o k d h =
      let s = drop start from in
      let x = get_or s k d in
      let done = map f (take k s) in
      ap (λ (v : A). set (sets old o done) (o + k) (f v)) (sym (get_or-drop start from k d))
      ∙ ap (λ (j : ℕ). set (sets old o done) (o + j) (f x)) (sym (stretch_long from start k (omega arith)))
      ∙ sym (sets_append old o done (f x ∷ []))
      ∙ ap (sets old o)
      (sym (map-append f (take k s) (x ∷ [])) ∙ ap (map f) (sym (take-suc s k d (omega (arith, length-drop start from))) ∙ ap (λ (j : ℕ). take j s) (sym (add-one k))))

  -- one more is
  pub stretching_more : {from : List A} {old ys : List B} {start end o k : ℕ} (d : A) → start ≤ end → end ≤ length from → Stretching from start end o old k ys → k < end - start
      → Stretching from start end o old (k + 1) (set ys (o + k) (f (get_or from (start + k) d)))
  stretching_more {from} {old} {ys} {start} {end} {o} {k} d r s c h =
      record {
        low = omega arith;
        list = ap (λ (v : List B). set v (o + k) (f (get_or from (start + k) d))) c.list ∙ stretch_next from old start o k d (omega arith);
        long = simp length-set c.long;
      }

  -- all are
  pub stretching_all : {from : List A} {old ys : List B} {start end o k : ℕ} → start ≤ end → end ≤ length from → o + (end - start) ≤ length old → Stretching from start end o old k ys → end - start ≤ k
      → Appended o (map f (take (end - start) (drop start from))) old ys
  stretching_all {from} {old} {ys} {start} {end} {o} {k} r s room c h =
      let n = end - start in
      let long = stretch_long from start n (omega arith) in
      appended_sets (omega arith) (c.list ∙ ap (λ (j : ℕ). sets old o (map f (take j (drop start from)))) (le_antisymm c.low h))

-- the first k indices of the stretch are written, each with `base` added
abbrev pub Moving : List ℕ → ℕ → ℕ → ℕ → ℕ → List ℕ → ℕ → List ℕ → Type 0
Moving from start end base o old k ys = Stretching (λ (i : ℕ). base + i) from start end o old k ys

-- the next stays below 2 ^ 32
pub moving_small : {from old ys : List ℕ} {start end base o k : ℕ} → MovedReady from start end base old o → Moving from start end base o old k ys → k < end - start
    → base + get_or from (start + k) 0 < 4294967296
moving_small {start = start} {k = k} r c h = r.small (start + k) (omega arith) (omega arith)

-- one more is
pub moving_more : {from old ys : List ℕ} {start end base o k : ℕ} (d : ℕ) → MovedReady from start end base old o → Moving from start end base o old k ys → k < end - start
    → Moving from start end base o old (k + 1) (set ys (o + k) (base + get_or from (start + k) d))
moving_more {base = base} d r c h = stretching_more (λ (i : ℕ). base + i) d r.order r.inside c h

-- all are
pub moving_all : {from old ys : List ℕ} {start end base o k : ℕ} → MovedReady from start end base old o → Moving from start end base o old k ys → end - start ≤ k
    → Appended o (map (λ i. base + i) (take (end - start) (drop start from))) old ys
moving_all {base = base} r c h = stretching_all (λ (i : ℕ). base + i) r.order r.inside r.room c h
