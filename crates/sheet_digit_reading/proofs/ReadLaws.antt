-- The laws of reading digits: the digit of a byte, hex of a fixed length, decimal. Assumes nothing.
use mathlib.Core.Bool.{Bool, true, false}
use mathlib.Core.List.{List, [], ◌∷◌}
use mathlib.Core.Option as maybe
use mathlib.Core.Path.{◌≡◌, refl, sym, ◌∙◌, ap, subst}
use Prim.Native.Nat.{ℕ, suc, ◌+◌, ◌-◌, ◌*◌, ◌^◌, ◌≤◌, ◌<◌}
use native.Mathlib.Nat.{add-zero, add_assoc, pow-succ', pow-le-pow_right, one-le-pow, mul-le-mul_left}
use native.Mathlib.Numerals.{add-one}
use native.Mathlib.Omega.{arith}
use borrow.Author.Tests.{le-leb, lt-leb, le-ltb, lt-ltb, eq-eqb, ne_eqb, leb-true}
use lib.Dec.{leb, ltb, eqb, lit<}
use lib.ListN.{length, get_or, drop, take, length-drop, drop_of_length-le}
use Rattle.std.specs.Prelude.{Option, Some, None}
use Rattle.std.proofs.Common.{take_all}
use Rattle.std.proofs.lemmas.List.{get_or-take, get_or-drop}
use Rattle.sheet_digits.specs.Digits.{below, decimal_below, decimal_from, digit_of, Found, found, hex_from, read_hex}
use Rattle.sheet_digits.specs.Offsets.{above, beneath, minus, read_offset}
use Rattle.sheet_digits.specs.Lengths.{Grown, decimal_length, hex_length}
use Rattle.sheet_digits.specs.Next.{next}
use Rattle.signed_numbers.specs.Range.{farthest}
use Rattle.sheet_digit_reading.specs.Given.{Bound, Digit, Number}
use Rattle.sheet_digit_reading.specs.declared.Taken.{Taken}

-- ---- the digit of a byte, by where the byte stands
pub decimal_there : (c : ℕ) → 48 ≤ c → c ≤ 57 → Digit c 10 (Some (c - 48))
unfolding digit_of
decimal_there c l h = (rw (le-leb 48 c l, le-leb c 57 h), omega arith)

pub decimal_low : (c : ℕ) → c < 48 → Digit c 10 None
unfolding digit_of
decimal_low c h = let e : digit_of c ≡ 16 = rw (lt-leb 48 c h, lt-leb 65 c (omega arith)) in omega arith

pub decimal_high : (c : ℕ) → 57 < c → Digit c 10 None
unfolding digit_of
decimal_high c l = go (leb 65 c) refl (leb c 70) refl
  where
    go : (a : Bool) → leb 65 c ≡ a → (b : Bool) → leb c 70 ≡ b → 10 ≤ digit_of c
    go true p true q = let e : digit_of c ≡ c - 55 = rw (le-leb 48 c (omega arith), lt-leb c 57 l, p, q) in omega (arith, leb-true 65 c p)
    go true p false q = let e : digit_of c ≡ 16 = rw (le-leb 48 c (omega arith), lt-leb c 57 l, p, q) in omega arith
    go false p b q = let e : digit_of c ≡ 16 = rw (le-leb 48 c (omega arith), lt-leb c 57 l, p) in omega arith

pub hex_there : (c : ℕ) → 65 ≤ c → c ≤ 70 → Digit c 16 (Some (c - 65 + 10))
unfolding digit_of
hex_there c l h =
    let e : digit_of c ≡ c - 55 = rw (le-leb 48 c (omega arith), lt-leb c 57 (omega arith), le-leb 65 c l, le-leb c 70 h) in
    (omega arith, omega arith)

-- a byte that is no letter of hex is a decimal digit, or none
pub hex_low : (c : ℕ) (o : Option ℕ) → c < 65 → Digit c 10 o → Digit c 16 o
unfolding digit_of
hex_low c (Some d) h v = (v.0, omega (arith, v.1))
hex_low c None h v = go (leb 48 c) refl (leb c 57) refl
  where
    go : (a : Bool) → leb 48 c ≡ a → (b : Bool) → leb c 57 ≡ b → 16 ≤ digit_of c
    go true p true q = let e : digit_of c ≡ c - 48 = rw (p, q) in absurd (omega (arith, v, leb-true c 57 q))
    go true p false q = let e : digit_of c ≡ 16 = rw (p, q, lt-leb 65 c h) in omega arith
    go false p b q = let e : digit_of c ≡ 16 = rw (p, lt-leb 65 c h) in omega arith

pub hex_high : (c : ℕ) (o : Option ℕ) → 70 < c → Digit c 10 o → Digit c 16 o
unfolding digit_of
hex_high c (Some d) h v = (v.0, omega (arith, v.1))
hex_high c None h v = let e : digit_of c ≡ 16 = rw (le-leb 48 c (omega arith), lt-leb c 57 (omega arith), le-leb 65 c (omega arith), lt-leb c 70 h) in omega arith

-- ---- answers

-- no number is there
pub no_number : (text : List ℕ) (bound : ℕ) (o : maybe.Option Found) → maybe.none ≡ o → Number text bound o None
no_number text bound o e = record { is = e; small = tt; within = tt }

-- ---- the loop over hex digits: what is left to read gives what reading from the place gives
pub record Hexed (text : List ℕ) (at k value i : ℕ) : Type 0 where
  pub few : i ≤ k
  pub inside : at + i ≤ length text
  pub small : value < 16 ^ i
  pub same : hex_from value (k - i) (drop (at + i) text) ≡ read_hex k (drop at text)

pub hexed_none : (text : List ℕ) (at k : ℕ) → at ≤ length text → Hexed text at k 0 0
hexed_none text at k h = record {
  few = omega arith;
  inside = omega arith;
  small = omega arith;
  same = ap (λ (n : ℕ). hex_from 0 n (drop (at + 0) text)) (let e : k - 0 ≡ k = omega arith in e)
      ∙ ap (λ (n : ℕ). hex_from 0 k (drop n text)) (add-zero at);
}

pub hexed_room : (text : List ℕ) (at k value i : ℕ) → Hexed text at k value i → i < k → k ≤ 16 → value * 16 + 15 < 2 ^ 64
hexed_room text at k value i v h l =
    let few : i ≤ 15 = omega arith in
    let p : 16 ^ i ≤ 16 ^ 15 = pow-le-pow_right (lit< tt) few in
    omega (arith, v.small)

sixteen_pos : (k : ℕ) → 0 < 16 ^ k
sixteen_pos k = one-le-pow k 16 (lit< tt)

-- what stands in a text from a place on, as a range
abbrev behind : List ℕ → ℕ → List ℕ
behind text at = take (length text - at) (drop at text)

behind_is : (text : List ℕ) (at : ℕ) → behind text at ≡ drop at text
behind_is text at = take_all (length text - at) (drop at text) (simp length-drop (omega arith))

-- the first k of a list
abbrev Front : ℕ → List ℕ → List ℕ → Type 0
Front k xs front = (0 ≤ k) × (k ≤ length xs) × (front ≡ take (k - 0) xs) × (length front + 0 ≡ k)

module _ (text : List ℕ) (at k value i : ℕ) (v : Hexed text at k value i) (front : List ℕ) (f : Front k (behind text at) front) (l : i < length front) where
  h : i < k
  h = omega (arith, f.3)

  pub inside : at + i < length text
  inside = let n : k ≤ length (drop at text) = rw (← behind_is text at) f.1 in omega (arith, h, simp length-drop at n)

  abbrev c : ℕ
  c = get_or front i 0

  place : c ≡ get_or text (at + i) 0
  place =
      let e : front ≡ take k (drop at text) = f.2 ∙ (let z : k - 0 ≡ k = omega arith in ap (λ (n : ℕ). take n (behind text at)) z) ∙ ap (take k) (behind_is text at) in
      ap (λ (xs : List ℕ). get_or xs i 0) e ∙ get_or-take k (drop at text) i 0 h ∙ get_or-drop at text i 0

  there : hex_from value (suc (k - (i + 1))) (c ∷ drop (at + (i + 1)) text) ≡ read_hex k (drop at text)
  there =
      ap (λ (x : ℕ). hex_from value (suc (k - (i + 1))) (x ∷ drop (at + (i + 1)) text)) place
      ∙ ap (hex_from value (suc (k - (i + 1)))) (sym (next text (at + i) 0 inside ∙ ap (λ (n : ℕ). get_or text (at + i) 0 ∷ drop n text) (add_assoc at i 1)))
      ∙ ap (λ (n : ℕ). hex_from value n (drop (at + i) text)) (let e : suc (k - (i + 1)) ≡ k - i = omega (arith, h) in e)
      ∙ v.same

  -- a byte that is no digit
  pub hexed_other : 16 ≤ digit_of c → Number text (16 ^ k) (read_hex k (drop at text)) None
  unfolding hex_from
  hexed_other b = no_number text (16 ^ k) (read_hex k (drop at text)) (sym (rw (le-ltb (digit_of c) 16 b, hex_from)) ∙ there)

  pub hexed_more : (d : ℕ) → (d ≡ digit_of c) × (d < 16) → Hexed text at k (value * 16 + d) (i + 1)
  unfolding hex_from
  hexed_more d (e, b) = record {
    few = omega (arith, h);
    inside = omega (arith, inside);
    small = rw (add-one, pow-succ') (omega (arith, v.small));
    same =
        let t : ltb (digit_of c) 16 ≡ true = lt-ltb (digit_of c) 16 (subst (λ (n : ℕ). n < 16) e b) in
        ap (λ (n : ℕ). hex_from (value * 16 + n) (k - (i + 1)) (drop (at + (i + 1)) text)) e ∙ sym (rw (t, hex_from)) ∙ there;
  }

-- the text ends
pub hexed_short : (text : List ℕ) (at k : ℕ) → length (behind text at) < k → Number text (16 ^ k) (read_hex k (drop at text)) None
hexed_short text at k h = no_number text (16 ^ k) (read_hex k (drop at text)) (go (read_hex k (drop at text)) refl)
  where
    go : (o : maybe.Option Found) → read_hex k (drop at text) ≡ o → maybe.none ≡ o
    go maybe.none e = refl
    go (maybe.some f) e = absurd (omega (arith, hex_length 0 k (drop at text) f e, ap length (behind_is text at)))

pub hexed_all : (text : List ℕ) (at k value i : ℕ) → Hexed text at k value i → k ≤ i → Number text (16 ^ k) (read_hex k (drop at text)) (Some (record { value = value; next = at + k }))
unfolding hex_from
hexed_all text at k value i v h =
    let e : i ≡ k = omega (arith, v.few) in
    let z : k - i ≡ 0 = omega arith in
    record {
      is = ap (λ (n : ℕ). maybe.some (found value (drop (at + n) text))) (sym e) ∙ ap (λ (n : ℕ). hex_from value n (drop (at + i) text)) (sym z) ∙ v.same;
      small = subst (λ (n : ℕ). value < 16 ^ n) e v.small;
      within = omega (arith, v.inside);
    }

-- ---- the loop over decimal digits
pub record Tens (text : List ℕ) (at before most value i : ℕ) : Type 0 where
  pub inside : i ≤ length text
  pub small : value < most + 1
  pub same : below (most + 1) (decimal_from value (drop i text)) ≡ below (most + 1) (decimal_from before (drop at text))

pub tens_none : (text : List ℕ) (at before most : ℕ) → at ≤ length text → before < 10 → Bound most → Tens text at before most before at
tens_none text at before most h l b = record { inside = h; small = omega (arith, b.least); same = refl }

-- a number that is already too large stays so
large : (bound before : ℕ) (xs : List ℕ) → bound ≤ before → below bound (decimal_from before xs) ≡ maybe.none
unfolding below
large bound before xs h =
    let g : Grown before xs (decimal_from before xs) = decimal_length before xs in
    let p : 0 < 10 ^ g.count = one-le-pow g.count 10 (lit< tt) in
    let q : before * 1 ≤ before * 10 ^ g.count = mul-le-mul_left before p in
    let b : bound ≤ (decimal_from before xs).value = omega (arith, g.large) in
    rw (le-ltb (decimal_from before xs).value bound b)

-- a number that was read whole
whole : (text : List ℕ) (bound value i : ℕ) (o : maybe.Option Found) → i ≤ length text → value < bound → below bound (found value (drop i text)) ≡ o
    → Number text bound o (Some (record { value = value; next = i }))
unfolding below
whole text bound value i o l h e = record { is = sym (rw (lt-ltb value bound h)) ∙ e; small = h; within = l }

module _ (text : List ℕ) (at before most value i : ℕ) (v : Tens text at before most value i) where
  pub tens_room : Bound most → value * 10 + 9 < 2 ^ 64
  tens_room b = omega (arith, v.small, b.highest)

  pub tens_all : length text ≤ i → Number text (most + 1) (below (most + 1) (decimal_from before (drop at text))) (Some (record { value = value; next = i }))
  unfolding decimal_from
  tens_all h =
      let e : drop i text ≡ [] = drop_of_length-le text h in
      whole text (most + 1) value i (below (most + 1) (decimal_from before (drop at text))) v.inside v.small
      (ap (λ (xs : List ℕ). below (most + 1) (found value xs)) e ∙ ap (λ (xs : List ℕ). below (most + 1) (decimal_from value xs)) (sym e) ∙ v.same)

  module _ (l : i < length text) where
    pub tens_stop : 10 ≤ digit_of (get_or text i 0) → Number text (most + 1) (below (most + 1) (decimal_from before (drop at text))) (Some (record { value = value; next = i }))
    unfolding decimal_from
    tens_stop b =
        let t : ltb (digit_of (get_or text i 0)) 10 ≡ false = le-ltb (digit_of (get_or text i 0)) 10 b in
        let stop : decimal_from value (get_or text i 0 ∷ drop (i + 1) text) ≡ found value (get_or text i 0 ∷ drop (i + 1) text) = rw (t, decimal_from) in
        whole text (most + 1) value i (below (most + 1) (decimal_from before (drop at text))) v.inside v.small
        (ap (λ (xs : List ℕ). below (most + 1) (found value xs)) (next text i 0 l)
        ∙ ap (below (most + 1)) (sym stop)
        ∙ ap (λ (xs : List ℕ). below (most + 1) (decimal_from value xs)) (sym (next text i 0 l))
        ∙ v.same)

    module _ (d : ℕ) (w : (d ≡ digit_of (get_or text i 0)) × (d < 10)) where
      abbrev e : d ≡ digit_of (get_or text i 0)
      e = w.0

      abbrev b : d < 10
      b = w.1

      step : below (most + 1) (decimal_from (value * 10 + d) (drop (i + 1) text)) ≡ below (most + 1) (decimal_from before (drop at text))
      unfolding decimal_from
      step =
          let t : ltb (digit_of (get_or text i 0)) 10 ≡ true = lt-ltb (digit_of (get_or text i 0)) 10 (subst (λ (n : ℕ). n < 10) e b) in
          let more : decimal_from value (get_or text i 0 ∷ drop (i + 1) text) ≡ decimal_from (value * 10 + digit_of (get_or text i 0)) (drop (i + 1) text) = rw (t, decimal_from) in
          ap (λ (n : ℕ). below (most + 1) (decimal_from (value * 10 + n) (drop (i + 1) text))) e
          ∙ ap (below (most + 1)) (sym more)
          ∙ ap (λ (xs : List ℕ). below (most + 1) (decimal_from value xs)) (sym (next text i 0 l))
          ∙ v.same

      pub tens_more : value * 10 + d ≤ most → Tens text at before most (value * 10 + d) (i + 1)
      tens_more s = record { inside = omega arith; small = omega arith; same = step }

      pub tens_large : most < value * 10 + d → Number text (most + 1) (below (most + 1) (decimal_from before (drop at text))) None
      tens_large s =
          no_number text (most + 1) (below (most + 1) (decimal_from before (drop at text)))
          (sym (large (most + 1) (value * 10 + d) (drop (i + 1) text) (omega arith)) ∙ step)

-- ---- a decimal number
module _ (text : List ℕ) (at most : ℕ) where
  pub number_end : length text ≤ at → Number text (most + 1) (decimal_below (most + 1) (drop at text)) None
  unfolding decimal_below
  number_end l = no_number text (most + 1) (decimal_below (most + 1) (drop at text)) (ap (decimal_below (most + 1)) (sym (drop_of_length-le text l)))

  module _ (c : ℕ) (there : (at < length text) × ((d : ℕ) → c ≡ get_or text at d)) where
    l : at < length text
    l = there.0

    same : digit_of c ≡ digit_of (get_or text at 0)
    same = ap digit_of (there.1 0)

    pub number_other : 10 ≤ digit_of c → Number text (most + 1) (decimal_below (most + 1) (drop at text)) None
    unfolding decimal_below
    number_other b =
        let t : ltb (digit_of (get_or text at 0)) 10 ≡ false = le-ltb (digit_of (get_or text at 0)) 10 (subst (λ (n : ℕ). 10 ≤ n) same b) in
        let no : decimal_below (most + 1) (get_or text at 0 ∷ drop (at + 1) text) ≡ maybe.none = rw (t, decimal_below) in
        no_number text (most + 1) (decimal_below (most + 1) (drop at text)) (sym no ∙ ap (decimal_below (most + 1)) (sym (next text at 0 l)))

    module _ (d : ℕ) (w : (d ≡ digit_of c) × (d < 10)) where
      there_too : d ≡ digit_of (get_or text at 0)
      there_too = w.0 ∙ same

      t : ltb (digit_of (get_or text at 0)) 10 ≡ true
      t = lt-ltb (digit_of (get_or text at 0)) 10 (subst (λ (n : ℕ). n < 10) there_too w.1)

      pub number_zero : d ≡ 0 → Number text (most + 1) (decimal_below (most + 1) (drop at text)) (Some (record { value = 0; next = at + 1 }))
      unfolding decimal_below
      number_zero z =
          let f : eqb (digit_of (get_or text at 0)) 0 ≡ true = eq-eqb (digit_of (get_or text at 0)) 0 (sym there_too ∙ z) in
          let nil : decimal_below (most + 1) (get_or text at 0 ∷ drop (at + 1) text) ≡ maybe.some (found 0 (drop (at + 1) text)) = rw (t, f, decimal_below) in
          record { is = sym nil ∙ ap (decimal_below (most + 1)) (sym (next text at 0 l)); small = omega arith; within = omega (arith, l) }

      pub number_more : (r : Option Taken) → (d ≡ 0 → ⊥) → Number text (most + 1) (below (most + 1) (decimal_from d (drop (at + 1) text))) r
          → Number text (most + 1) (decimal_below (most + 1) (drop at text)) r
      unfolding decimal_below
      number_more r z v =
          let f : eqb (digit_of (get_or text at 0)) 0 ≡ false = ne_eqb (digit_of (get_or text at 0)) 0 (λ q. z (there_too ∙ q)) in
          let more : decimal_below (most + 1) (get_or text at 0 ∷ drop (at + 1) text) ≡ below (most + 1) (decimal_from (digit_of (get_or text at 0)) (drop (at + 1) text)) = rw (t, f, decimal_below) in
          subst (λ (o : maybe.Option Found). Number text (most + 1) o r)
          (ap (λ (n : ℕ). below (most + 1) (decimal_from n (drop (at + 1) text))) there_too ∙ sym more ∙ ap (decimal_below (most + 1)) (sym (next text at 0 l)))
          v

-- ---- an offset
module _ (text : List ℕ) (at : ℕ) where
  pub offset_end : length text ≤ at → Number text (2 ^ 41 + 1) (read_offset (drop at text)) None
  unfolding read_offset
  offset_end l = no_number text (2 ^ 41 + 1) (read_offset (drop at text)) (ap read_offset (sym (drop_of_length-le text l)))

  module _ (c : ℕ) (there : (at < length text) × ((d : ℕ) → c ≡ get_or text at d)) (m : c ≡ 45) where
    minus_then : beneath (decimal_below (suc farthest) (drop (at + 1) text)) ≡ read_offset (drop at text)
    unfolding read_offset
    minus_then =
        let first : read_offset (get_or text at 0 ∷ drop (at + 1) text) ≡ beneath (decimal_below (suc farthest) (drop (at + 1) text)) = rw (eq-eqb (get_or text at 0) minus (sym (there.1 0) ∙ m), read_offset) in
        sym first ∙ ap read_offset (sym (next text at 0 there.0))

    pub beneath_none : Number text (2 ^ 40 + 1) (decimal_below (2 ^ 40 + 1) (drop (at + 1) text)) None → Number text (2 ^ 41 + 1) (read_offset (drop at text)) None
    unfolding beneath
    beneath_none v = no_number text (2 ^ 41 + 1) (read_offset (drop at text)) (ap beneath v.is ∙ minus_then)

    module _ (t : Taken) (v : Number text (2 ^ 40 + 1) (decimal_below (2 ^ 40 + 1) (drop (at + 1) text)) (Some t)) where
      pub beneath_zero : t.value ≡ 0 → Number text (2 ^ 41 + 1) (read_offset (drop at text)) None
      unfolding beneath
      beneath_zero z =
          let no : beneath (maybe.some (found t.value (drop t.next text))) ≡ maybe.none = rw (eq-eqb t.value 0 z, beneath) in
          no_number text (2 ^ 41 + 1) (read_offset (drop at text)) (sym no ∙ ap beneath v.is ∙ minus_then)

      pub beneath_some : (t.value ≡ 0 → ⊥) → Number text (2 ^ 41 + 1) (read_offset (drop at text)) (Some (record { value = 1099511627776 - t.value; next = t.next }))
      unfolding beneath
      beneath_some z =
          let there : beneath (maybe.some (found t.value (drop t.next text))) ≡ maybe.some (found (farthest - t.value) (drop t.next text)) = rw (ne_eqb t.value 0 z, beneath) in
          record { is = sym there ∙ ap beneath v.is ∙ minus_then; small = omega arith; within = v.within }

  module _ (c : ℕ) (there : (at < length text) × ((d : ℕ) → c ≡ get_or text at d)) (m : c ≡ 45 → ⊥) where
    no_minus : above (decimal_below (suc farthest) (drop at text)) ≡ read_offset (drop at text)
    unfolding read_offset
    no_minus =
        let first : read_offset (get_or text at 0 ∷ drop (at + 1) text) ≡ above (decimal_below (suc farthest) (get_or text at 0 ∷ drop (at + 1) text)) = rw (ne_eqb (get_or text at 0) minus (λ q. m (there.1 0 ∙ q)), read_offset) in
        ap (λ (xs : List ℕ). above (decimal_below (suc farthest) xs)) (next text at 0 there.0) ∙ sym first ∙ ap read_offset (sym (next text at 0 there.0))

    pub above_none : Number text (2 ^ 40 + 1) (decimal_below (2 ^ 40 + 1) (drop at text)) None → Number text (2 ^ 41 + 1) (read_offset (drop at text)) None
    unfolding above
    above_none v = no_number text (2 ^ 41 + 1) (read_offset (drop at text)) (ap above v.is ∙ no_minus)

    pub above_some : (t : Taken) → Number text (2 ^ 40 + 1) (decimal_below (2 ^ 40 + 1) (drop at text)) (Some t)
        → Number text (2 ^ 41 + 1) (read_offset (drop at text)) (Some (record { value = 1099511627776 + t.value; next = t.next }))
    unfolding above
    above_some t v = record { is = ap above v.is ∙ no_minus; small = omega (arith, v.small); within = v.within }
