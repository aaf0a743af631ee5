-- The words of offsets: an offset's text is its word's. Assumes nothing.
use Rattle.std.specs.Prelude.{Bool, true, false, cond, List, ◌∷◌, ◌≡◌, refl, ℕ, suc, ◌+◌, ◌-◌, ◌≤◌, ◌<◌, T, leb, ltb, ℤ, pos, negsuc, nat_abs, ◌-ℤ◌}
use Rattle.std.proofs.Common.{sym, ◌∙◌, ap, arith, ltb-true, le-leb, le-ltb, lt-ltb, leb→le, le→leb}
use Rattle.signed_numbers.specs.Range.{farthest, within}
use Rattle.signed_numbers.specs.Linear.{up, down, alone, abs, minus}
use Rattle.sheet_digits.specs.Digits.{decimal}
use Rattle.sheet_digits.specs.Offsets as Offsets
use Rattle.sheet_digits.specs.Offsets.{offset}
use Rattle.sheet_digits.specs.OffsetLaws.{offset_words}
use Rattle.plan_definition.specs.Grammar.{integer}
use Rattle.plan_definition.specs.Lines.{offset_of}

-- the text of an offset is the text of its word
pub integer_word : (w : ℕ) → integer (offset_of w) ≡ offset w
unfolding integer offset
integer_word w = go (ltb w farthest) refl
  where
    go : (b : Bool) → ltb w farthest ≡ b → integer (cond b (negsuc (farthest - suc w)) (pos (w - farthest))) ≡ cond b (Offsets.minus ∷ decimal (farthest - w)) (decimal (w - farthest))
    go true q =
        let h : w < farthest = ltb-true w farthest q in
        ap (λ (n : ℕ). Offsets.minus ∷ decimal n) (let e : suc (farthest - suc w) ≡ farthest - w = omega arith in e)
    go false q = refl

-- the word of an offset
unfoldable pub word : ℤ → ℕ
word (pos n) = farthest + n
word (negsuc n) = farthest - suc n

pub word_back : (z : ℤ) → T (within z) → offset_of (word z) ≡ z
unfolding word
word_back (pos n) t = rw (le-ltb (farthest + n) farthest (omega arith)) (ap pos (let e : farthest + n - farthest ≡ n = omega arith in e))
word_back (negsuc n) t =
    let h : suc n ≤ farthest = leb→le (suc n) farthest t in
    rw (lt-ltb (farthest - suc n) farthest (omega arith)) (ap negsuc (let e : farthest - suc (farthest - suc n) ≡ n = omega arith in e))

pub word_small : (z : ℤ) → T (within z) → word z < offset_words
unfolding word
word_small (pos n) t = let h : n ≤ farthest = leb→le n farthest t in omega arith
word_small (negsuc n) t = let h : suc n ≤ farthest = leb→le (suc n) farthest t in omega arith

-- the offset of a word is in range
pub word_within : (w : ℕ) → w < offset_words → T (within (offset_of w))
word_within w h = le→leb (nat_abs (offset_of w)) farthest (omega (arith, minus (pos w) (pos farthest), alone (offset_of w), abs (offset_of w)))

pub word_text : (z : ℤ) → T (within z) → integer z ≡ offset (word z)
word_text z t = ap integer (sym (word_back z t)) ∙ integer_word (word z)
