-- Laws of the loop that counts uses. Assumes nothing.
use mathlib.Core.Path.{◌≡◌, refl, sym, ap, ◌∙◌, subst}
use mathlib.Core.Bool.{Bool, true, false, cond}
use mathlib.Core.List.{List, [], ◌∷◌, ◌++◌}
use Prim.Native.Nat.{ℕ, suc, ◌+◌, ◌-◌, ◌≤◌, ◌<◌, min}
use native.Mathlib.Omega.{arith}
use native.Mathlib.Decide.{ℕ_discrete}
use lib.ListN.{length, get_or, set, take, drop, replicate, length-set, length-take, length-drop, length-replicate, get_or-replicate}
use lib.Seq.{sets, length-sets, get_or-take, get_or-drop, get_or-set_same, get_or-set_other, take-set-le, drop-set-lt, ext_get_or}
use lib.Dec.{eqb}
use borrow.Author.Tests.{eq-eqb, ne_eqb}
use Rattle.lists.specs.Lists.{count_if}
use Rattle.lists.specs.Sets.{get_d_sets_in, take_sets, drop_sets}
use Rattle.lists.specs.Stretches.{stretch_more}
use Rattle.edge_uses.specs.Counted.{StepReady, CountReady, Counted}

-- one more item
pub count_snoc : {A : Type 0} (f : A → Bool) (xs : List A) (x : A) → count_if f (xs ++ x ∷ []) ≡ count_if f xs + cond (f x) 1 0
unfolding count_if
count_snoc f [] x = go (f x)
  where
    go : (b : Bool) → cond b 1 0 ≡ 0 + cond b 1 0
    go true = refl
    go false = refl
count_snoc f (y ∷ xs) x = go (f y) (count_snoc f xs x)
  where
    go : (b : Bool) → count_if f (xs ++ x ∷ []) ≡ count_if f xs + cond (f x) 1 0
        → cond b (suc (count_if f (xs ++ x ∷ []))) (count_if f (xs ++ x ∷ [])) ≡ cond b (suc (count_if f xs)) (count_if f xs) + cond (f x) 1 0
    go true e = omega arith
    go false e = e

-- at most all pass
pub count_low : {A : Type 0} (f : A → Bool) (xs : List A) → count_if f xs ≤ length xs
unfolding count_if
count_low f [] = omega arith
count_low f (x ∷ xs) = go (f x) (count_low f xs)
  where
    go : (b : Bool) → count_if f xs ≤ length xs → cond b (suc (count_if f xs)) (count_if f xs) ≤ suc (length xs)
    go true e = omega arith
    go false e = omega arith

-- with the uses before use i counted: W became w
pub record CountingUses (W : List ℕ) (firsts counts n i : ℕ) (w : List ℕ) : Type 0 where
  pub low : i ≤ n
  pub count : (j : ℕ) → j < n → get_or w (counts + j) 0 ≡ count_if (eqb j) (take i (drop firsts W))
  pub front : take counts w ≡ take counts W
  pub rest : drop (counts + n) w ≡ drop (counts + n) W
  pub long : length w ≡ length W

-- the counts are cleared first: U became W
module _ {U W : List ℕ} {firsts counts n e : ℕ} (r : CountReady U firsts counts n) (ee : e ≡ counts + n) (ew : W ≡ sets U counts (replicate (e - counts) 0)) where
  abbrev zeros : List ℕ
  zeros = replicate n 0

  zeros_long : length zeros ≡ n
  zeros_long = length-replicate n 0

  list : W ≡ sets U counts zeros
  list = let c : e - counts ≡ n = omega arith in ew ∙ ap (λ (m : ℕ). sets U counts (replicate m 0)) c

  firsts_kept : take counts W ≡ take counts U
  firsts_kept = ap (take counts) list ∙ take_sets U counts zeros

  first_kept : (i : ℕ) → i < n → get_or W (firsts + i) 0 ≡ get_or U (firsts + i) 0
  first_kept i h =
      let l : firsts + i < counts = omega (arith, r.apart) in
      sym (get_or-take counts W (firsts + i) 0 l) ∙ ap (λ (l : List ℕ). get_or l (firsts + i) 0) firsts_kept ∙ get_or-take counts U (firsts + i) 0 l

  pub cleared_ready : CountReady W firsts counts n
  cleared_ready =
      record {
        apart = r.apart;
        room = omega (arith, r.room, ap length list, length-sets U counts zeros);
        low = λ i h. subst (λ (m : ℕ). m < n) (sym (first_kept i h)) (r.low i h);
      }

  pub counting_none : CountingUses W firsts counts n 0 W
  unfolding count_if
  counting_none =
      record {
        low = omega arith;
        count = λ j h.
            ap (λ (l : List ℕ). get_or l (counts + j) 0) list
            ∙ get_d_sets_in U counts zeros j 0 (omega (arith, zeros_long)) (omega (arith, r.room))
            ∙ get_or-replicate n j 0 0 h;
        front = refl;
        rest = refl;
        long = refl;
      }

  pub counting_all : {w : List ℕ} {i : ℕ} → CountingUses W firsts counts n i w → n ≤ i → Counted U firsts counts n w
  counting_all {w} {i} c h =
      let q : i ≡ n = omega (arith, c.low) in
      record {
        count = λ j l. c.count j l ∙ ap (λ (m : ℕ). count_if (eqb j) (take m (drop firsts W))) q ∙ ap (count_if (eqb j)) firsts_same;
        front = c.front ∙ firsts_kept;
        rest = c.rest ∙ ap (drop (counts + n)) list ∙ drop_sets U counts zeros (counts + n) (omega (arith, zeros_long));
      }
    where
      room : firsts + n ≤ length U
      room = omega (arith, r.apart, r.room)

      long : length W ≡ length U
      long = ap length list ∙ length-sets U counts zeros

      firsts_same : take n (drop firsts W) ≡ take n (drop firsts U)
      firsts_same =
          ext_get_or 0 (take n (drop firsts W)) (take n (drop firsts U))
          (length-take n (drop firsts W) ∙ ap (min n) (length-drop firsts W ∙ ap (λ (m : ℕ). m - firsts) long ∙ sym (length-drop firsts U)) ∙ sym (length-take n (drop firsts U)))
          (λ i h.
          let l : i < n = omega (arith, length-take n (drop firsts W)) in
          get_or-take n (drop firsts W) i 0 l ∙ get_or-drop firsts W i 0 ∙ first_kept i l ∙ sym (get_or-take n (drop firsts U) i 0 l ∙ get_or-drop firsts U i 0))

module _ {W w : List ℕ} {firsts counts n i : ℕ} (r : CountReady W firsts counts n) (c : CountingUses W firsts counts n i w) (more : i < n) where
  -- the first use of use i, as it was
  first_is : get_or w (firsts + i) 0 ≡ get_or W (firsts + i) 0
  first_is =
      let h : firsts + i < counts = omega (arith, r.apart) in
      sym (get_or-take counts w (firsts + i) 0 h) ∙ ap (λ (l : List ℕ). get_or l (firsts + i) 0) c.front ∙ get_or-take counts W (firsts + i) 0 h

  first_low : get_or w (firsts + i) 0 < n
  first_low = subst (λ (m : ℕ). m < n) (sym first_is) (r.low i more)

  pub step_ready : StepReady w firsts counts i
  step_ready =
      record {
        inside = omega (arith, r.apart, r.room, c.long);
        room = omega (arith, first_low, r.room, c.long);
        small = omega (arith, c.count (get_or w (firsts + i) 0) first_low, count_low (eqb (get_or w (firsts + i) 0)) (take i (drop firsts W)), length-take i (drop firsts W), r.room, c.long);
      }

  -- the first uses counted next
  next : take (i + 1) (drop firsts W) ≡ take i (drop firsts W) ++ get_or w (firsts + i) 0 ∷ []
  next = stretch_more W firsts i 0 (omega (arith, r.apart, r.room)) ∙ ap (λ (x : ℕ). take i (drop firsts W) ++ x ∷ []) (sym first_is)

  pub counting_more : {v : List ℕ} → v ≡ set w (counts + get_or w (firsts + i) 0) (get_or w (counts + get_or w (firsts + i) 0) 0 + 1) → CountingUses W firsts counts n (i + 1) v
  counting_more {v} e =
      let f = get_or w (firsts + i) 0 in
      record {
        low = omega arith;
        count = λ j h. ap (λ (l : List ℕ). get_or l (counts + j) 0) e ∙ go j h (ℕ_discrete j f) ∙ sym (ap (count_if (eqb j)) next ∙ count_snoc (eqb j) (take i (drop firsts W)) f);
        front = ap (take counts) e ∙ take-set-le counts w (counts + f) (get_or w (counts + f) 0 + 1) (omega arith) ∙ c.front;
        rest = ap (drop (counts + n)) e ∙ drop-set-lt (counts + n) w (counts + f) (get_or w (counts + f) 0 + 1) (omega (arith, first_low)) ∙ c.rest;
        long = ap length e ∙ length-set w (counts + f) (get_or w (counts + f) 0 + 1) ∙ c.long;
      }
    where
      go : (j : ℕ) → j < n → Dec (j ≡ get_or w (firsts + i) 0)
          → get_or (set w (counts + get_or w (firsts + i) 0) (get_or w (counts + get_or w (firsts + i) 0) 0 + 1)) (counts + j) 0
          ≡ count_if (eqb j) (take i (drop firsts W)) + cond (eqb j (get_or w (firsts + i) 0)) 1 0
      go j h (yes q) =
          rw (eq-eqb j (get_or w (firsts + i) 0) q)
          (ap (λ (m : ℕ). get_or (set w (counts + get_or w (firsts + i) 0) (get_or w (counts + get_or w (firsts + i) 0) 0 + 1)) (counts + m) 0) q
          ∙ get_or-set_same w (counts + get_or w (firsts + i) 0) (get_or w (counts + get_or w (firsts + i) 0) 0 + 1) 0 (omega (arith, first_low, r.room, c.long))
          ∙ ap (λ (m : ℕ). get_or w (counts + m) 0 + 1) (sym q)
          ∙ ap (λ (m : ℕ). m + 1) (c.count j h))
      go j h (no q) =
          rw (ne_eqb j (get_or w (firsts + i) 0) q)
          (get_or-set_other w (counts + get_or w (firsts + i) 0) (counts + j) (get_or w (counts + get_or w (firsts + i) 0) 0 + 1) 0 (λ z. q (omega arith)) ∙ omega (arith, c.count j h))
