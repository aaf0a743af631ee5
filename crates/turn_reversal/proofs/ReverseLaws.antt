-- Laws of the loops that reverse a row where it stands. Assumes nothing.
use mathlib.Core.Path.{◌≡◌, refl, sym, ap, ◌∙◌}
use mathlib.Core.List.{List, [], ◌∷◌, ◌++◌, map, append_assoc, append-nil, map-append}
use Prim.Native.Nat.{ℕ, ◌+◌, ◌%◌, ◌≤◌, ◌<◌}
use native.Mathlib.Omega.{arith}
use lib.ListN.{length, get_or, set, take, length-set, length-map}
use lib.Seq.{sets, sets-eq, set-get_or, length-take-le}
use borrow.Author.Tests.{eq-eqb, ne_eqb}
use lib.Ieee.{Float, nan, neg}
use Rattle.std.specs.List.{swap}
use Rattle.std.proofs.Common.{take_all, drop_of_length-le}
use Rattle.std.proofs.lemmas.List.{take_more}
use Rattle.std.proofs.lemmas.List.Edits.{swap_is, length-swap}
use Rattle.lists.specs.Sets.{get_d_sets_beyond, sets_append, three_stored}
use Rattle.turn_definition.specs.Reversal.{swapped, length_swapped}
use Rattle.turn_reversal.specs.Reversed.{RowReversed}

-- a whole list stored
sets_whole : {A : Type 0} (xs ys : List A) → length ys ≡ length xs → sets xs 0 ys ≡ ys
sets_whole xs ys e = sets-eq ys xs 0 (omega arith) ∙ ap (λ v. ys ++ v) (drop_of_length-le xs (omega arith)) ∙ append-nil ys

-- `negate` with the first k numbers negated: N became w
pub record Negating (N : List Float) (k : ℕ) (w : List Float) : Type 0 where
  pub high : k ≤ length N
  pub list : w ≡ sets N 0 (map neg (take k N))
  pub long : length w ≡ length N

pub negating_none : {N : List Float} → Negating N 0 N
negating_none = record { high = omega arith; list = refl; long = refl }

pub negating_more : {N w : List Float} {k : ℕ} → Negating N k w → k < length w → Negating N (k + 1) (set w k (neg (get_or w k nan)))
negating_more {N} {w} {k} n h =
    let l : k < length N = omega (arith, n.long) in
    let xs = take k N in
    let at : 0 + length (map neg xs) ≡ k = omega (arith, length-take-le k N n.high, length-map xs neg) in
    let x : get_or w k nan ≡ get_or N k nan = ap (λ v. get_or v k nan) n.list ∙ get_d_sets_beyond N 0 (map neg xs) k nan (omega (arith, at)) in
    record {
      high = omega arith;
      list =
          ap (λ y. set w k (neg y)) x
          ∙ ap (λ v. set v k (neg (get_or N k nan))) n.list
          ∙ ap (λ m. sets (sets N 0 (map neg xs)) m (neg (get_or N k nan) ∷ [])) (sym at)
          ∙ sym (sets_append N 0 (map neg xs) (neg (get_or N k nan) ∷ []))
          ∙ ap (sets N 0) (sym (map-append neg xs (get_or N k nan ∷ [])) ∙ ap (map neg) (sym (take_more N k nan l)));
      long = simp length-set n.long;
    }

pub negating_all : {N w : List Float} {k : ℕ} → Negating N k w → length w ≤ k → w ≡ map neg N
negating_all {N} {w} {k} n h =
    n.list ∙ ap (λ v. sets N 0 (map neg v)) (take_all k N (omega (arith, n.long))) ∙ sets_whole N (map neg N) (length-map N neg)

-- ---- corners

-- whole triangles, and one more
swapped_more : (is : List ℕ) (a b c : ℕ) → length is % 3 ≡ 0 → swapped (is ++ a ∷ b ∷ c ∷ []) ≡ swapped is ++ a ∷ c ∷ b ∷ []
unfolding swapped
swapped_more [] a b c e = refl
swapped_more (x ∷ []) a b c e = absurd (omega arith)
swapped_more (x ∷ y ∷ []) a b c e = absurd (omega arith)
swapped_more (x ∷ y ∷ z ∷ is) a b c e = ap (λ l. x ∷ z ∷ y ∷ l) (swapped_more is a b c (omega arith))

-- `swap_corners` with the triangles before index k done: N became w
pub record Swapping (N : List ℕ) (k : ℕ) (w : List ℕ) : Type 0 where
  pub high : k ≤ length N
  pub before : k % 3 ≡ 0
  pub list : w ≡ sets N 0 (swapped (take k N))
  pub long : length w ≡ length N

pub swapping_none : {N : List ℕ} → Swapping N 0 N
unfolding swapped
swapping_none = record { high = omega arith; before = refl; list = refl; long = refl }

module _ {N w : List ℕ} {k : ℕ} (t : length N % 3 ≡ 0) (s : Swapping N k w) (more : k < length N) where
  pub three : k + 3 ≤ length w
  three = omega (arith, s.before, t, s.long)

  pub swapping_more : {v : List ℕ} → v ≡ swap w (k + 1) (k + 2) → Swapping N (k + 3) v
  swapping_more {v} e =
      record {
        high = omega (arith, three, s.long);
        before = omega (arith, s.before);
        list = e ∙ sym (swap_is w (k + 1) (k + 2) 0 (omega (arith, three)) (omega (arith, three)))
            ∙ stored ∙ ap (λ v. sets v k (a ∷ c ∷ b ∷ [])) s.list ∙ ap (λ m. sets (sets N 0 (swapped xs)) m (a ∷ c ∷ b ∷ [])) (sym at) ∙ sym (sets_append N 0 (swapped xs) (a ∷ c ∷ b ∷ []))
            ∙ ap (sets N 0) (sym (swapped_more xs a b c whole) ∙ ap swapped (sym next));
        long = ap length e ∙ length-swap w (k + 1) (k + 2) ∙ s.long;
      }
    where
      xs : List ℕ
      xs = take k N

      a : ℕ
      a = get_or N k 0

      b : ℕ
      b = get_or N (k + 1) 0

      c : ℕ
      c = get_or N (k + 2) 0

      l : length xs ≡ k
      l = length-take-le k N s.high

      whole : length xs % 3 ≡ 0
      whole = ap (λ n. n % 3) l ∙ s.before

      at : 0 + length (swapped xs) ≡ k
      at = omega (arith, l, length_swapped xs)

      read : (j : ℕ) → k ≤ j → get_or w j 0 ≡ get_or N j 0
      read j h = ap (λ v. get_or v j 0) s.list ∙ get_d_sets_beyond N 0 (swapped xs) j 0 (omega (arith, at))

      stored : set (set w (k + 1) (get_or w (k + 2) 0)) (k + 2) (get_or w (k + 1) 0) ≡ sets w k (a ∷ c ∷ b ∷ [])
      stored =
          ap (λ x. set (set w (k + 1) x) (k + 2) (get_or w (k + 1) 0)) (read (k + 2) (omega arith))
          ∙ ap (λ x. set (set w (k + 1) c) (k + 2) x) (read (k + 1) (omega arith))
          ∙ ap (λ v. set (set v (k + 1) c) (k + 2) b) (sym (set-get_or w k 0) ∙ ap (set w k) (read k (omega arith)))
          ∙ three_stored w k a c b

      next : take (k + 3) N ≡ xs ++ a ∷ b ∷ c ∷ []
      next =
          let p : k + 1 + 1 ≡ k + 2 = omega arith in
          let q : k + 2 + 1 ≡ k + 3 = omega arith in
          ap (λ n. take n N) (sym q)
          ∙ take_more N (k + 2) 0 (omega (arith, three, s.long))
          ∙ ap (λ n. take n N ++ c ∷ []) (sym p)
          ∙ ap (λ v. v ++ c ∷ []) (take_more N (k + 1) 0 (omega (arith, three, s.long)))
          ∙ ap (λ v. (v ++ b ∷ []) ++ c ∷ []) (take_more N k 0 more)
          ∙ append_assoc (xs ++ a ∷ []) (b ∷ []) (c ∷ [])
          ∙ append_assoc xs (a ∷ []) (b ∷ c ∷ [])

pub swapping_all : {N w : List ℕ} {k : ℕ} → Swapping N k w → length N ≤ k → w ≡ swapped N
swapping_all {N} {w} {k} s h =
    s.list ∙ ap (λ v. sets N 0 (swapped v)) (take_all k N h) ∙ sets_whole N (swapped N) (length_swapped N)

-- ---- one row

pub row_kept : {c : ℕ} {ns : List Float} {is : List ℕ} → (c ≡ 2 → ⊥) → RowReversed c ns is ns is 0
row_kept {c} {ns} {is} n =
    let a = ne_eqb c 2 n in
    let b = ne_eqb 2 c (λ z. n (sym z)) in
    record { normals = rw a refl; indices = rw a refl; count = rw b }

pub row_turned : {c : ℕ} {ns ns' : List Float} {is is' : List ℕ} → c ≡ 2 → is' ≡ swapped is → ns' ≡ map neg ns → RowReversed c ns is ns' is' 1
row_turned {c} {ns} {ns'} {is} {is'} e ei en =
    let a = eq-eqb c 2 e in
    let b = eq-eqb 2 c (sym e) in
    record { normals = rw a en; indices = rw a ei; count = rw b }
