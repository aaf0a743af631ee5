-- An offset that was printed reads back, and what is read is exactly what is printed. Assumes nothing.
use Rattle.sheet_digits.specs.OffsetLaws.{offset_words, OffsetOf}
use Rattle.std.specs.Prelude.{Bool, true, false, List, [], ◌∷◌, ◌++◌, ◌≡◌, refl, ℕ, suc, ◌+◌, ◌-◌, ◌*◌, ◌^◌, ◌≤◌, ◌<◌, T, ltb, eqb, length}
use Rattle.std.proofs.Math.Option.{Option, none, some}
use Rattle.std.proofs.Common.{sym, ◌∙◌, ap, arith, lt-ltb, le-ltb, ne_eqb, eqb-true, ltb-true, ltb-false}
use Rattle.std.proofs.lemmas.Bool.{eqb-false}
use Rattle.sheet_digits.specs.Digits.{digit_of, decimal, Found, found, decimal_below}
use Rattle.sheet_digits.specs.ReadBack.{no_digit, decimal_below_decimal}
use Rattle.sheet_digits.proofs.Exact.{below_exact, below_small}
use Rattle.sheet_digits.specs.Lengths.{below_length}
use Rattle.signed_numbers.specs.Range.{farthest}
use Rattle.sheet_digits.specs.Offsets.{minus, offset, above, beneath, read_offset}

-- no number begins with a minus
minus_no_number : (bound : ℕ) (xs : List ℕ) → decimal_below bound (minus ∷ xs) ≡ none
unfolding decimal_below digit_of
minus_no_number bound xs = refl

-- a text that begins with a number is read as an offset above zero
pub number_above : (xs : List ℕ) (f : Found) → decimal_below (suc farthest) xs ≡ some f → read_offset xs ≡ above (some f)
unfolding read_offset decimal_below
number_above [] f e = let z : ◌≡◌ {A = ℕ} 0 1 = cc in absurd (omega arith)
number_above (x ∷ xs) f e = go (eqb x minus) refl
  where
    go : (b : Bool) → eqb x minus ≡ b → read_offset (x ∷ xs) ≡ above (some f)
    go true q =
        let no : decimal_below (suc farthest) (x ∷ xs) ≡ none = ap (λ (y : ℕ). decimal_below (suc farthest) (y ∷ xs)) (eqb-true x minus q) ∙ minus_no_number (suc farthest) xs in
        let z : ◌≡◌ {A = ℕ} 0 1 = cc in
        absurd (omega arith)
    go false q = rw (q, read_offset) (ap above e)

-- An offset that was printed reads back.
pub read_offset_offset : (n : ℕ) (rest : List ℕ) → n < offset_words → T (no_digit rest) → read_offset (offset n ++ rest) ≡ some (found n rest)
unfolding offset read_offset above beneath
read_offset_offset n rest h t = go (ltb n farthest) refl
  where
    go : (b : Bool) → ltb n farthest ≡ b → read_offset (offset n ++ rest) ≡ some (found n rest)
    go true q =
        let l : n < farthest = ltb-true n farthest q in
        let some_left : eqb (farthest - n) 0 ≡ false = ne_eqb (farthest - n) 0 (λ z. omega arith) in
        let word : farthest - (farthest - n) ≡ n = omega arith in
        rw (q, offset) (ap beneath (decimal_below_decimal (suc farthest) (farthest - n) rest (omega arith) (omega arith) t) ∙ rw (some_left, beneath) (ap (λ (m : ℕ). some (found m rest)) word))
    go false q =
        let l : farthest ≤ n = ltb-false n farthest q in
        let word : farthest + (n - farthest) ≡ n = omega arith in
        rw (q, offset)
        (number_above (decimal (n - farthest) ++ rest) (found (n - farthest) rest) (decimal_below_decimal (suc farthest) (n - farthest) rest (omega arith) (omega arith) t)
        ∙ ap (λ (m : ℕ). some (found m rest)) word)

-- ---- what is read

-- an offset below zero: its size, which isn't 0
beneath_of : (o : Option Found) (f : Found) → beneath o ≡ some f → (g : Found) × (o ≡ some g) × ¬ (g.value ≡ 0) × (found (farthest - g.value) g.rest ≡ f)
unfolding beneath
beneath_of none f e = let z : ◌≡◌ {A = ℕ} 0 1 = cc in absurd (omega arith)
beneath_of (some g) f e = go (eqb g.value 0) refl
  where
    go : (b : Bool) → eqb g.value 0 ≡ b → (k : Found) × (some g ≡ some k) × ¬ (k.value ≡ 0) × (found (farthest - k.value) k.rest ≡ f)
    go true q = let n : none ≡ some f = rw q at e in let z : ◌≡◌ {A = ℕ} 0 1 = cc in absurd (omega arith)
    go false q = let n : some (found (farthest - g.value) g.rest) ≡ some f = rw q at e in (g, refl, eqb-false g.value 0 q, cc)

above_of : (o : Option Found) (f : Found) → above o ≡ some f → (g : Found) × (o ≡ some g) × (found (farthest + g.value) g.rest ≡ f)
unfolding above
above_of none f e = let z : ◌≡◌ {A = ℕ} 0 1 = cc in absurd (omega arith)
above_of (some g) f e = (g, refl, cc)

beneath_exact : (xs : List ℕ) (f : Found) → beneath (decimal_below (suc farthest) xs) ≡ some f → OffsetOf (minus ∷ xs) f
unfolding offset
beneath_exact xs f e =
    let r = beneath_of (decimal_below (suc farthest) xs) f e in
    let g : Found = r.0 in
    let most : g.value < suc farthest = below_small (suc farthest) (omega arith) xs g r.1 in
    let word : f.value ≡ farthest - g.value = ap (λ (k : Found). k.value) (sym r.3) in
    let nz : ¬ (g.value ≡ 0) = r.2 in
    let low : ltb f.value farthest ≡ true = lt-ltb f.value farthest (omega arith) in
    let size : farthest - f.value ≡ g.value = omega arith in
    record {
      text = rw low (ap (λ (m : ℕ). minus ∷ (decimal m ++ f.rest)) size
          ∙ ap (λ (k : Found). minus ∷ (decimal g.value ++ k.rest)) (sym r.3)
          ∙ ap (λ (ys : List ℕ). minus ∷ ys) (below_exact (suc farthest) (omega arith) xs g r.1));
      small = omega arith;
      long = omega (arith, below_length (suc farthest) 12 (omega arith) xs g r.1, ap (λ (k : Found). length k.rest) r.3);
    }

above_exact : (xs : List ℕ) (f : Found) → above (decimal_below (suc farthest) xs) ≡ some f → OffsetOf xs f
unfolding offset
above_exact xs f e =
    let r = above_of (decimal_below (suc farthest) xs) f e in
    let g : Found = r.0 in
    let most : g.value < suc farthest = below_small (suc farthest) (omega arith) xs g r.1 in
    let word : f.value ≡ farthest + g.value = ap (λ (k : Found). k.value) (sym r.2) in
    let high : ltb f.value farthest ≡ false = le-ltb f.value farthest (omega arith) in
    let size : f.value - farthest ≡ g.value = omega arith in
    record {
      text = rw high (ap (λ (m : ℕ). decimal m ++ f.rest) size
          ∙ ap (λ (k : Found). decimal g.value ++ k.rest) (sym r.2)
          ∙ below_exact (suc farthest) (omega arith) xs g r.1);
      small = omega arith;
      long = omega (arith, below_length (suc farthest) 12 (omega arith) xs g r.1, ap (λ (k : Found). length k.rest) r.2);
    }

-- What is read as an offset is the text of its word.
pub offset_exact : (xs : List ℕ) (f : Found) → read_offset xs ≡ some f → OffsetOf xs f
unfolding read_offset
offset_exact [] f e = let z : ◌≡◌ {A = ℕ} 0 1 = cc in absurd (omega arith)
offset_exact (x ∷ xs) f e = go (eqb x minus) refl
  where
    go : (b : Bool) → eqb x minus ≡ b → OffsetOf (x ∷ xs) f
    go true q =
        let r : OffsetOf (minus ∷ xs) f = beneath_exact xs f (rw (q, read_offset) at e) in
        let first : minus ≡ x = sym (eqb-true x minus q) in
        record { text = r.text ∙ ap (λ (y : ℕ). y ∷ xs) first; small = r.small; long = r.long }
    go false q = above_exact (x ∷ xs) f (rw (q, read_offset) at e)
