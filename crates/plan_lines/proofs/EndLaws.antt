-- The laws of a line's end: the bytes from its place on have no line feed so far. Assumes nothing.
use mathlib.Core.Bool.{Bool, true, false, not}
use mathlib.Core.List.{List, [], ◌∷◌, ◌++◌}
use mathlib.Core.Path.{◌≡◌, refl, sym, ◌∙◌, ap, subst}
use Prim.Native.Nat.{ℕ, zero, suc, ◌+◌, ◌-◌, ◌≤◌, ◌<◌}
use native.Mathlib.Numerals.{add-one}
use native.Mathlib.Omega.{arith}
use borrow.Author.Tests.{eqb-true}
use lib.Dec.{T, eqb}
use lib.Ieee.Fits.{and_i, and_l, and_r}
use lib.ListN.{length, get_or, take, drop, drop_of_length-le, length-drop, take-append-drop}
use lib.Seq.{slice, take-suc, take_all, take-nil, drop-append-le, get_or-drop, length-take-le}
use Rattle.std.specs.Prelude.{◌==◌, Option, None, Some, position}
use Rattle.std.specs.List.{position_or_len}
use Rattle.std.proofs.lemmas.List.Quantifiers.{position-Some}
use Rattle.std.proofs.lemmas.List.Sums.{fails_before_first}
use Rattle.std.proofs.lemmas.Grind.{common_steps}
use Rattle.sheet_digits.specs.Next.{next}
use Rattle.plan_definition.specs.Lines.{joined, lines_of}
use Rattle.plan_definition.specs.TextLaws.{no_feed, feed_cut}
use Rattle.plan_lines.specs.Given.{LineEnd}

-- the line from a place on goes on to i
pub record Ending (text : List ℕ) (at i : ℕ) : Type 0 where
  pub from : at ≤ i
  pub inside : i ≤ length text
  pub free : T (no_feed (slice at i text))

-- the bytes from a place up to another
pub bytes_between : (at end : ℕ) (text : List ℕ) → slice at end text ≡ take (end - at) (drop at text)
bytes_between zero end text = ap (λ (n : ℕ). take n text) (let e : end ≡ end - 0 = omega arith in e)
bytes_between (suc at) zero text = ap (λ (n : ℕ). take n (drop (suc at) text)) (let e : 0 ≡ 0 - suc at = omega arith in e)
bytes_between (suc at) (suc end) [] = sym (take-nil (suc end - suc at))
bytes_between (suc at) (suc end) (c ∷ cs) = bytes_between at end cs ∙ ap (λ (n : ℕ). take n (drop at cs)) (let e : end - at ≡ suc end - suc at = omega arith in e)

-- a stretch and the byte behind it
longer : (text : List ℕ) (at i : ℕ) → at ≤ i → i < length text → slice at (i + 1) text ≡ slice at i text ++ get_or text i 0 ∷ []
longer text at i l h =
    ap (λ (n : ℕ). drop at (take n text)) (add-one i)
    ∙ ap (drop at) (take-suc text i 0 h)
    ∙ drop-append-le at (take i text) (get_or text i 0 ∷ []) (subst (λ (n : ℕ). at ≤ n) (sym (length-take-le i text (omega arith))) l)

-- a stretch and all that stands behind it
whole : (text : List ℕ) (at i : ℕ) → at ≤ i → i ≤ length text → drop at text ≡ slice at i text ++ drop i text
whole text at i l h =
    ap (drop at) (sym (take-append-drop i text)) ∙ drop-append-le at (take i text) (drop i text) (subst (λ (n : ℕ). at ≤ n) (sym (length-take-le i text h)) l)

-- a text up to its first line feed
free_front : (xs : List ℕ) (n : ℕ) → ((k : ℕ) → k < n → eqb (get_or xs k 0) 10 ≡ false) → T (no_feed (take n xs))
unfolding no_feed
free_front xs zero v = tt
free_front [] (suc n) v = tt
free_front (c ∷ cs) (suc n) v =
    and_i (not (eqb c 10)) (no_feed (take n cs)) (subst (λ (b : Bool). T (not b)) (sym (v 0 (omega arith))) tt) (free_front cs n (λ k h. v (suc k) (omega arith)))

-- a byte that is no line feed
other : (c : ℕ) (cs : List ℕ) → T (no_feed (c ∷ cs)) → eqb c 10 ≡ false
unfolding no_feed
other c cs t = go (eqb c 10) refl
  where
    go : (b : Bool) → eqb c 10 ≡ b → eqb c 10 ≡ false
    go true q = absurd (subst (λ (x : Bool). T (not x)) q (and_l (not (eqb c 10)) (no_feed cs) t))
    go false q = q

-- a text without a line feed is one line
alone : (c : ℕ) (cs : List ℕ) → T (no_feed (c ∷ cs)) → lines_of (c ∷ cs) ≡ (c ∷ cs) ∷ []
unfolding no_feed lines_of joined
alone c [] t = rw (other c [] t, lines_of)
alone c (d ∷ cs) t = rw (other c (d ∷ cs) t, lines_of) (ap (joined c) (alone d cs (and_r (not (eqb c 10)) (no_feed (d ∷ cs)) t)))

module _ (text : List ℕ) (at i : ℕ) (v : Ending text at i) where
  ending_feed : i < length text → get_or text i 0 ≡ 10 → LineEnd text at (i + 1)
  ending_feed h e = record {
    more = omega (arith, v.from);
    within = omega arith;
    cut =
        ap lines_of (whole text at i v.from (omega arith) ∙ ap (λ (xs : List ℕ). slice at i text ++ xs) (next text i 0 h ∙ ap (λ (c : ℕ). c ∷ drop (i + 1) text) e))
        ∙ feed_cut (slice at i text) (drop (i + 1) text) v.free
        ∙ ap (λ (xs : List ℕ). xs ∷ lines_of (drop (i + 1) text)) (ap (λ (c : ℕ). slice at i text ++ c ∷ []) (sym e) ∙ sym (longer text at i v.from h));
  }

  ending_all : at < length text → length text ≤ i → LineEnd text at i
  unfolding lines_of
  ending_all h l = record { more = omega arith; within = v.inside; cut = cut }
    where
      all : take i text ≡ text
      all = take_all i text l

      rest : drop at text ≡ get_or text at 0 ∷ drop (at + 1) text
      rest = next text at 0 h

      free : T (no_feed (get_or text at 0 ∷ drop (at + 1) text))
      free = subst (λ (xs : List ℕ). T (no_feed xs)) (ap (drop at) all ∙ rest) v.free

      none_left : drop i text ≡ []
      none_left = drop_of_length-le text l

      cut : lines_of (drop at text) ≡ slice at i text ∷ lines_of (drop i text)
      cut =
          ap lines_of rest
          ∙ alone (get_or text at 0) (drop (at + 1) text) free
          ∙ ap (λ (xs : List ℕ). xs ∷ []) (sym (ap (drop at) all ∙ rest))
          ∙ ap (λ (xs : List ℕ). slice at i text ∷ lines_of xs) (sym none_left)

-- the first line feed from a place on ends its line; with none the line goes on to the end
module _ (text : List ℕ) (at : ℕ) (h : at < length text) (r : Option ℕ) (d : r ≡ position (λ c. c == 10) (take (length text - at) (drop at text))) where
  e : r ≡ position (λ c. c == 10) (drop at text)
  e = d ∙ ap (position (λ c. c == 10)) (take_all (length text - at) (drop at text) (omega (arith, length-drop at text)))

  pub line_fed : (n : ℕ) → r ≡ Some n → LineEnd text at (at + n + 1)
  line_fed n q =
      let found = position-Some (λ c. c == 10) (drop at text) n 0 (sym e ∙ q) in
      let inside : at + n < length text = omega (arith, found.0, length-drop at text) in
      ending_feed text at (at + n)
      (record {
        from = omega arith;
        inside = omega arith;
        free = subst (λ (xs : List ℕ). T (no_feed xs)) (sym (bytes_between at (at + n) text ∙ ap (λ (k : ℕ). take k (drop at text)) (let m : at + n - at ≡ n = omega arith in m)))
            (free_front (drop at text) n found.2);
      })
      inside (eqb-true (get_or text (at + n) 0) 10 (ap (λ (c : ℕ). eqb c 10) (sym (get_or-drop at text n 0)) ∙ found.1))

  pub line_unfed : r ≡ None → LineEnd text at (length text)
  line_unfed q =
      let none_found : length (drop at text) ≤ position_or_len (λ c. c == 10) (drop at text) = past (sym e ∙ q) in
      ending_all text at (length text)
      (record {
        from = omega arith;
        inside = omega arith;
        free = subst (λ (xs : List ℕ). T (no_feed xs)) (sym (bytes_between at (length text) text))
            (free_front (drop at text) (length text - at) (λ k l. fails_before_first (λ c. c == 10) (drop at text) k 0 (omega (arith, none_found, length-drop at text))));
      })
      h (omega arith)
    where
      past : position (λ c. c == 10) (drop at text) ≡ None → length (drop at text) ≤ position_or_len (λ c. c == 10) (drop at text)
      past z = grind (arith, common_steps)
