-- The laws of writing digits: a byte, a text, the digits of a number from the last, and how many there are. Assumes nothing.
use mathlib.Core.List.{List, [], ◌∷◌, ◌++◌, append-nil, append_assoc}
use mathlib.Core.Path.{◌≡◌, refl, sym, ◌∙◌, ap, subst}
use Prim.Native.Nat.{ℕ, zero, suc, ◌+◌, ◌-◌, ◌*◌, ◌/◌, ◌%◌, ◌^◌, ◌≤◌, ◌<◌}
use native.Mathlib.Nat.{pow-succ', mod-lt, le_of_eq}
use native.Mathlib.Numerals.{add-one}
use native.Mathlib.Omega.{arith}
use borrow.Author.Tests.{le-ltb, lt-ltb}
use lib.ListN.{length, get_or, take, drop, set, drop_of_length-le, length-append, length-take, length-drop, length-set}
use lib.Seq.{drop-cons, take_all, take-suc, take-suc-set, get_or-set_same, drop-set-lt}
use Rattle.sheet_digits.specs.Digits.{decimal, decimal_to, digit_byte, digits}
use Rattle.sheet_digits.proofs.Exact.{digits_last, decimal_to_at}
use Rattle.signed_numbers.specs.Range.{farthest}
use Rattle.sheet_digits.specs.Offsets.{offset}
use Rattle.sheet_digit_writing.specs.Writing.{Digits, Filling, Wrote}
use Rattle.sheet_digit_writing.specs.Wrote.{wrote_none, wrote_then}

-- ---- a byte
pub wrote_byte : (E : List ℕ) (at b : ℕ) → at < length E → Wrote E at (b ∷ []) (set E at b) (at + 1)
wrote_byte E at b h =
    let one : length (take at E ++ b ∷ []) ≤ length E = simp (length-append, length-take) (omega arith) in
    record {
      long = length-set E at b;
      more = omega arith;
      within = omega arith;
      front = ap (λ (n : ℕ). take n (set E at b)) (add-one at) ∙ take-suc-set E at b h ∙ sym (take_all (length E) (take at E ++ b ∷ []) one);
      rest = ap (λ (n : ℕ). drop n (set E at b)) (add-one at) ∙ drop-set-lt (suc at) E at b (omega arith) ∙ ap (λ (n : ℕ). drop n E) (sym (add-one at));
    }

pub wrote_full : (E : List ℕ) (at b : ℕ) → length E ≤ at → at ≤ length E → Wrote E at (b ∷ []) E at
wrote_full E at b h l =
    let e : length E ≡ at = omega arith in
    record {
      long = refl;
      more = omega arith;
      within = l;
      front = ap (λ (n : ℕ). take n E) (sym e) ∙ front_of E (b ∷ []) ∙ ap (λ (xs : List ℕ). take (length E) (xs ++ b ∷ [])) (sym (take_all at E h));
      rest = refl;
    }
  where
    front_of : (xs ys : List ℕ) → take (length xs) xs ≡ take (length xs) (xs ++ ys)
    front_of [] ys = refl
    front_of (x ∷ xs) ys = ap (λ (zs : List ℕ). x ∷ zs) (front_of xs ys)

-- ---- a text
pub record Texted (E : List ℕ) (at : ℕ) (text W : List ℕ) (next i : ℕ) : Type 0 where
  pub inside : i ≤ length text
  pub wrote : Wrote E at (take i text) W next

pub texted_none : (E : List ℕ) (at : ℕ) (text : List ℕ) → at ≤ length E → Texted E at text E at 0
texted_none E at text h = record { inside = omega arith; wrote = wrote_none E at h }

pub texted_room : (E : List ℕ) (at : ℕ) (text W : List ℕ) (next i : ℕ) → Texted E at text W next i → next ≤ length W
texted_room E at text W next i v = omega (arith, v.wrote.within, v.wrote.long)

pub texted_more : (E : List ℕ) (at : ℕ) (text W U : List ℕ) (next r i : ℕ) → Texted E at text W next i → i < length text → Wrote W next (get_or text i 0 ∷ []) U r → Texted E at text U r (i + 1)
texted_more E at text W U next r i v h w =
    record { inside = omega arith; wrote = subst (λ (xs : List ℕ). Wrote E at xs U r) (sym (ap (λ (n : ℕ). take n text) (add-one i) ∙ take-suc text i 0 h)) (wrote_then v.wrote w) }

pub texted_all : (E : List ℕ) (at : ℕ) (text W : List ℕ) (next i : ℕ) → Texted E at text W next i → length text ≤ i → Wrote E at text W next
texted_all E at text W next i v h = subst (λ (xs : List ℕ). Wrote E at xs W next) (take_all i text h) v.wrote

-- ---- digits from the last
pub record Filled (base k n : ℕ) (W : List ℕ) (m i : ℕ) : Type 0 where
  pub few : i ≤ k
  pub long : length W ≡ 20
  pub same : digits base (k - i) m ++ drop (20 - i) W ≡ digits base k n

pub filled_none : (base k n : ℕ) (W : List ℕ) → length W ≡ 20 → Filled base k n W n 0
filled_none base k n W h = record {
  few = omega arith;
  long = h;
  same = ap (λ (y : ℕ). digits base y n ++ drop 20 W) (let e : k - 0 ≡ k = omega arith in e)
      ∙ ap (λ (xs : List ℕ). digits base k n ++ xs) (drop_of_length-le W (le_of_eq h)) ∙ append-nil (digits base k n);
}

pub filled_more : (base k n : ℕ) (W : List ℕ) (m i b : ℕ) → Filled base k n W m i → i < k → k ≤ 20 → b ≡ digit_byte (m % base) → Filled base k n (set W (19 - i) b) (m / base) (i + 1)
filled_more base k n W m i b v h l e =
    let j : ℕ = 19 - i in
    let here : 20 - (i + 1) ≡ j = omega arith in
    let after : suc j ≡ 20 - i = omega arith in
    let count : k - i ≡ suc (k - (i + 1)) = omega arith in
    let inside : j < length W = omega (arith, v.long) in
    let there : drop j (set W j b) ≡ b ∷ drop (20 - i) W =
    drop-cons (set W j b) j 0 (simp length-set inside)
    ∙ ap (λ (y : ℕ). y ∷ drop (suc j) (set W j b)) (get_or-set_same W j b 0 inside)
    ∙ ap (λ (ys : List ℕ). b ∷ ys) (drop-set-lt (suc j) W j b (omega arith) ∙ ap (λ (y : ℕ). drop y W) after) in
    record {
      few = omega arith;
      long = length-set W j b ∙ v.long;
      same =
          ap (λ (y : ℕ). digits base (k - (i + 1)) (m / base) ++ drop y (set W j b)) here
          ∙ ap (λ (ys : List ℕ). digits base (k - (i + 1)) (m / base) ++ ys) there
          ∙ ap (λ (y : ℕ). digits base (k - (i + 1)) (m / base) ++ y ∷ drop (20 - i) W) e
          ∙ sym (append_assoc (digits base (k - (i + 1)) (m / base)) (digit_byte (m % base) ∷ []) (drop (20 - i) W))
          ∙ ap (λ (ds : List ℕ). ds ++ drop (20 - i) W) (sym (digits_last base (k - (i + 1)) m) ∙ ap (λ (y : ℕ). digits base y m) (sym count))
          ∙ v.same;
    }

pub filled_all : (base k n : ℕ) (W : List ℕ) (m i : ℕ) → Filled base k n W m i → k ≤ i → Filling base k n W
unfolding digits
filled_all base k n W m i v h =
    let z : k - i ≡ 0 = omega arith in
    let e : i ≡ k = omega (arith, v.few) in
    record { long = v.long; is = ap (λ (y : ℕ). drop (20 - y) W) (sym e) ∙ ap (λ (y : ℕ). digits base y m ++ drop (20 - i) W) (sym z) ∙ v.same }

pub small_digit : (m base : ℕ) → 0 < base → base ≤ 16 → m % base < 16
small_digit m base p h = omega (arith, mod-lt m p)

pub wrote_digits : (E : List ℕ) (at base k n : ℕ) (room W : List ℕ) (r : ℕ) → Filling base k n room → k ≤ 20 → Wrote E at (take (20 - (20 - k)) (drop (20 - k) room)) W r
    → Wrote E at (digits base k n) W r
wrote_digits E at base k n room W r v h w =
    let fit : length (drop (20 - k) room) ≤ 20 - (20 - k) = simp length-drop (omega (arith, v.long)) in
    subst (λ (xs : List ℕ). Wrote E at xs W r) (take_all (20 - (20 - k)) (drop (20 - k) room) fit ∙ v.is) w

pub wrote_decimal : (E : List ℕ) (at k n : ℕ) (W : List ℕ) (r : ℕ) → Digits n k → Wrote E at (digits 10 k n) W r → Wrote E at (decimal n) W r
wrote_decimal E at k n W r v w = subst (λ (xs : List ℕ). Wrote E at xs W r) (sym v.is) w

-- ---- how many digits
pub digits_none : Digits 0 1
unfolding decimal_to
digits_none = record { few = omega arith; is = refl }

pub digits_some : (n k : ℕ) → 10 ^ k ≤ n → n < 10 * 10 ^ k → k < 20 → Digits n (k + 1)
unfolding decimal_to
digits_some n k low high few = subst (λ (m : ℕ). Digits n m) (sym (add-one k)) (record { few = omega arith; is = go k n low (subst (λ (m : ℕ). n < m) (sym (pow-succ' 10 k)) high) (omega arith) })
  where
    go : (k n : ℕ) → 10 ^ k ≤ n → n < 10 ^ suc k → k ≤ 19 → decimal n ≡ digits 10 (suc k) n
    go zero zero low high l = refl
    go zero (suc n) low high l = decimal_to_at 19 0 (suc n) (omega arith) (omega arith) high
    go (suc k) n low high l = decimal_to_at 19 (suc k) n l low high

-- ---- an offset
pub offset_beneath : (E W U : List ℕ) (at n q r : ℕ) → n < 1099511627776 → Wrote E at (45 ∷ []) W q → Wrote W q (decimal (1099511627776 - n)) U r → Wrote E at (offset n) U r
unfolding offset
offset_beneath E W U at n q r h v w = rw (lt-ltb n farthest h) (wrote_then v w)

pub offset_above : (E W : List ℕ) (at n r : ℕ) → 1099511627776 ≤ n → Wrote E at (decimal (n - 1099511627776)) W r → Wrote E at (offset n) W r
unfolding offset
offset_above E W at n r h v = rw (le-ltb n farthest h) v
