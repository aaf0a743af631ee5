-- A text is its lines laid end to end, and a line's text is one line of it. Assumes nothing.
use Rattle.std.specs.Prelude.{Bool, true, false, ◌&&◌, not, cond, List, [], ◌∷◌, ◌++◌, ◌≡◌, refl, ℕ, zero, suc, ◌+◌, ◌/◌, ◌%◌, ◌^◌, ◌<◌, T, ltb, eqb, ℤ, pos, negsuc}
use Rattle.std.proofs.Common.{append_assoc, sym, ◌∙◌, ap, subst, arith, ne_eqb, eqb-true}
use Rattle.std.proofs.lemmas.Bool.{not-true}
use Rattle.std.specs.Float.Ieee.Fits.{and_l, and_r, and_i}
use Rattle.sheet_digits.specs.Bytes.{bytes}
use Rattle.sheet_digits.specs.Digits.{digit_byte, digits, decimal_to, decimal}
use Rattle.sheet_digits.specs.Offsets.{minus}
use Rattle.plan_definition.specs.Places.{Place}
use Rattle.plan_definition.specs.Grammar.{integer, offset_text, group_line, bin_line, close_line}
use Rattle.plan_definition.specs.Lines.{Line, Open, Bin, Close, joined, lines_of, line_text}

-- ---- a text is its lines laid end to end

-- lines laid end to end
unfoldable pub end_to_end : List (List ℕ) → List ℕ
end_to_end [] = []
end_to_end (l ∷ ls) = l ++ end_to_end ls

joined_text : (c : ℕ) (ls : List (List ℕ)) → end_to_end (joined c ls) ≡ c ∷ end_to_end ls
unfolding end_to_end joined
joined_text c [] = refl
joined_text c (l ∷ ls) = refl

pub lines_text : (cs : List ℕ) → end_to_end (lines_of cs) ≡ cs
unfolding end_to_end lines_of
lines_text [] = refl
lines_text (c ∷ cs) = go (eqb c 10) refl (lines_text cs)
  where
    go : (b : Bool) → eqb c 10 ≡ b → end_to_end (lines_of cs) ≡ cs → end_to_end (lines_of (c ∷ cs)) ≡ c ∷ cs
    go true q e = rw (q, lines_of) (ap (λ (ys : List ℕ). 10 ∷ ys) e ∙ ap (λ (x : ℕ). x ∷ cs) (sym (eqb-true c 10 q)))
    go false q e = rw (q, lines_of) (joined_text c (lines_of cs) ∙ ap (λ (ys : List ℕ). c ∷ ys) e)

-- ---- a line's text is one line

-- whether no byte is a line feed
unfoldable pub no_feed : List ℕ → Bool
no_feed [] = true
no_feed (c ∷ cs) = not (eqb c 10) && no_feed cs

-- a text ends in its only line feed
pub record Ended (l : List ℕ) : Type 0 where
  pub body : List ℕ
  pub free : T (no_feed body)
  pub is : body ++ 10 ∷ [] ≡ l

pub feed_cut : (body xs : List ℕ) → T (no_feed body) → lines_of (body ++ 10 ∷ xs) ≡ (body ++ 10 ∷ []) ∷ lines_of xs
unfolding no_feed lines_of joined
feed_cut [] xs t = refl
feed_cut (c ∷ cs) xs t = go (eqb c 10) refl (feed_cut cs xs (and_r (not (eqb c 10)) (no_feed cs) t))
  where
    go : (b : Bool) → eqb c 10 ≡ b → lines_of (cs ++ 10 ∷ xs) ≡ (cs ++ 10 ∷ []) ∷ lines_of xs → lines_of (c ∷ (cs ++ 10 ∷ xs)) ≡ (c ∷ (cs ++ 10 ∷ [])) ∷ lines_of xs
    go true q e = absurd (subst (λ (b : Bool). T (not b)) q (and_l (not (eqb c 10)) (no_feed cs) t))
    go false q e = rw (q, lines_of) (ap (joined c) e)

-- A text that ends in its only line feed is the first line of what it begins.
pub ended_cut : (l xs : List ℕ) → Ended l → lines_of (l ++ xs) ≡ l ∷ lines_of xs
ended_cut l xs v =
    ap (λ (m : List ℕ). lines_of (m ++ xs)) (sym v.is)
    ∙ ap lines_of (append_assoc v.body (10 ∷ []) xs)
    ∙ feed_cut v.body xs v.free
    ∙ ap (λ (m : List ℕ). m ∷ lines_of xs) v.is

pub free_append : (a b : List ℕ) → T (no_feed a) → T (no_feed b) → T (no_feed (a ++ b))
unfolding no_feed
free_append [] b s t = t
free_append (c ∷ a) b s t = and_i (not (eqb c 10)) (no_feed (a ++ b)) (and_l (not (eqb c 10)) (no_feed a) s) (free_append a b (and_r (not (eqb c 10)) (no_feed a) s) t)

-- more before it
ended_after : (a l : List ℕ) → T (no_feed a) → Ended l → Ended (a ++ l)
ended_after a l t v = record { body = a ++ v.body; free = free_append a v.body t v.free; is = append_assoc a v.body (10 ∷ []) ∙ ap (λ (m : List ℕ). a ++ m) v.is }

ended_space : (l : List ℕ) → Ended l → Ended (32 ∷ l)
unfolding no_feed
ended_space l v = ended_after (32 ∷ []) l tt v

ended_alone : Ended (10 ∷ [])
unfolding no_feed
ended_alone = record { body = []; free = tt; is = refl }

-- ---- numbers have no line feed

digit_free : (d : ℕ) → T (not (eqb (digit_byte d) 10))
unfolding digit_byte
digit_free d = go (ltb d 10)
  where
    yes : (n : ℕ) → (n ≡ 10 → ⊥) → T (not (eqb n 10))
    yes n h = subst (λ (b : Bool). T (not b)) (sym (ne_eqb n 10 h)) tt

    go : (b : Bool) → T (not (eqb (cond b (48 + d) (55 + d)) 10))
    go true = yes (48 + d) (λ e. omega arith)
    go false = yes (55 + d) (λ e. omega arith)

digits_free : (k n : ℕ) → T (no_feed (digits 10 k n))
unfolding digits no_feed
digits_free zero n = tt
digits_free (suc k) n = and_i (not (eqb (digit_byte (n / 10 ^ k % 10)) 10)) (no_feed (digits 10 k n)) (digit_free (n / 10 ^ k % 10)) (digits_free k n)

decimal_free : (k n : ℕ) → T (no_feed (decimal_to k n))
unfolding decimal_to
decimal_free zero n = digits_free 1 n
decimal_free (suc k) n = go (ltb n (10 ^ suc k)) (decimal_free k n)
  where
    go : (b : Bool) → T (no_feed (decimal_to k n)) → T (no_feed (elim b as (λ x. List ℕ) [ true ↦ decimal_to k n | false ↦ digits 10 (suc (suc k)) n ]))
    go true t = t
    go false t = digits_free (suc (suc k)) n

integer_free : (z : ℤ) → T (no_feed (integer z))
unfolding integer no_feed
integer_free (pos n) = decimal_free 19 n
integer_free (negsuc n) = decimal_free 19 (suc n)

ended_offset : (o : Place) (l : List ℕ) → Ended l → Ended (offset_text o l)
unfolding offset_text
ended_offset o l v =
    ended_space _ (ended_after (integer o.x) _ (integer_free o.x)
    (ended_space _ (ended_after (integer o.y) _ (integer_free o.y) (ended_space _ (ended_after (integer o.z) l (integer_free o.z) v)))))

ended_close : Ended close_line
unfolding close_line no_feed
ended_close = ended_after (bytes ")") (10 ∷ []) tt ended_alone

pub ended_bin : (n : ℤ) (o : Place) → Ended (bin_line n o)
unfolding bin_line no_feed close_line
ended_bin n o = ended_after (bytes "(bin") _ tt (ended_space _ (ended_after (integer n) _ (integer_free n) (ended_offset o _ ended_close)))

ended_group : (o : Place) → Ended (group_line o)
unfolding group_line no_feed
ended_group o = ended_after (bytes "(group") _ tt (ended_offset o _ ended_alone)

-- A line's text ends in its only line feed.
pub ended_line : (x : Line) → Ended (line_text x)
unfolding line_text
ended_line (Open o) = ended_group o
ended_line (Bin n o) = ended_bin (pos n) o
ended_line Close = ended_close
