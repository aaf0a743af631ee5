-- Laws of loops that fill words from the front. Assumes nothing.
use mathlib.Core.Path.{◌≡◌, refl, sym, ap, subst, ◌∙◌}
use mathlib.Core.List.{List, [], ◌∷◌, ◌++◌}
use Prim.Native.Nat.{ℕ, zero, suc, ◌+◌, ◌<◌, ◌≤◌}
use native.Mathlib.Nat.{le_antisymm, not-suc-le-zero, le_of_suc-le-suc}
use native.Mathlib.Numerals.{add-one}
use native.Mathlib.Omega.{arith}
use lib.ListN.{length, get_or, take, drop, set, length-set}
use lib.Seq.{take_all}

-- at a counting loop's end the counter is the end
pub at_end : (P : ℕ → Type 0) {i n : ℕ} → i ≤ n → n ≤ i → P i → P n
at_end P lo hi p = subst P (le_antisymm lo hi) p

-- one more word written in front of what was there
write_suc : (n : ℕ) (xs v : List ℕ) → n < length xs → n < length v → set (take n xs ++ drop n v) n (get_or xs n 0) ≡ take (suc n) xs ++ drop (suc n) v
write_suc n [] v l m = absurd (not-suc-le-zero l)
write_suc n (x ∷ xs) [] l m = absurd (not-suc-le-zero m)
write_suc zero (x ∷ xs) (y ∷ v) l m = refl
write_suc (suc n) (x ∷ xs) (y ∷ v) l m = ap (λ (t : List ℕ). x ∷ t) (write_suc n xs v (le_of_suc-le-suc l) (le_of_suc-le-suc m))

-- n words xs are written over the front of v, with i of them done: v became w
pub record Written (xs : List ℕ) (n : ℕ) (v : List ℕ) (i : ℕ) (w : List ℕ) : Type 0 where
  pub low : i ≤ n
  pub list : w ≡ take i xs ++ drop i v
  pub long : length w ≡ length v

-- no word yet
pub written_none : (xs : List ℕ) (n : ℕ) (v : List ℕ) → Written xs n v 0 v
written_none xs n v = record { low = omega arith; list = refl; long = refl }

-- one word more
pub written_more : {xs : List ℕ} {n i : ℕ} {w v : List ℕ} {x : ℕ} → length xs ≡ n → n ≤ length v → Written xs n v i w → i < n → x ≡ get_or xs i 0
    → Written xs n v (i + 1) (set w i x)
written_more {xs} {n} {i} {w} {v} {x} e r f h g =
    record {
      low = omega arith;
      list =
          (λ k. set (f.list k) i (g k))
          ∙ write_suc i xs v (omega arith) (omega arith)
          ∙ ap (λ (k : ℕ). take k xs ++ drop k v) (sym (add-one i));
      long = simp length-set f.long;
    }

-- all words
pub written_all : {xs : List ℕ} {n i : ℕ} {w v : List ℕ} → length xs ≡ n → Written xs n v i w → n ≤ i → w ≡ xs ++ drop n v
written_all {xs} {n} {i} {w} {v} e f h =
    at_end (λ k. w ≡ take k xs ++ drop k v) f.low h f.list ∙ ap (λ (l : List ℕ). l ++ drop n v) (take_all n xs (omega arith))
