-- The laws of what a line is: by its form, and the numbers that were read. Assumes nothing.
use mathlib.Core.Bool.{Bool, true, false, ◌&&◌, cond}
use mathlib.Core.List.{List, [], ◌∷◌}
use mathlib.Core.Option.{none, some}
use mathlib.Core.Path.{◌≡◌, refl, sym, ◌∙◌, ap}
use Prim.Native.Nat.{ℕ, ◌-◌, ◌^◌, ◌≤◌, ◌<◌}
use native.Mathlib.Omega.{arith}
use borrow.Author.Tests.{le-leb, lt-leb}
use lib.Dec.{T, ltb, ltb→lt}
use lib.Ieee.Fits.{and_l, and_r}
use lib.ListN.{length, get_or, take, drop, drop_of_length-le}
use lib.Seq.{slice}
use Rattle.body_refusals.specs.TableChecks.{most_bin}
use Rattle.sheet_digits.specs.OffsetLaws.{offset_words}
use Rattle.sheet_lines.specs.Forms.{read}
use Rattle.sheet_lines.specs.Counted.{count_in}
use Rattle.sheet_lines.specs.Pattern.{piece, pieces}
use Rattle.sheet_lines.specs.Scan.{Scanned}
use Rattle.sheet_lines.specs.Exact.{read_fits}
use Rattle.plan_definition.specs.Lines as Lines
use Rattle.plan_definition.specs.Lines.{group_form, bin_form, close_form, opened, standing, line_of}
use Rattle.plan_lines.specs.declared.lines.PlanLine.{PlanLine}
use Rattle.plan_lines.specs.Given.{Found, Line, LineEnd, InWords, Small, ended, given}
use Rattle.plan_lines.proofs.EndLaws.{bytes_between}
use Rattle.plan_lines.specs.Patterns.{group_pattern, bin_pattern, close_pattern, group_read, bin_read, close_read}

-- as many numbers as there is room for
pub group_count : count_in (pieces group_pattern) ≡ 3
unfolding count_in piece
group_count = refl

pub bin_count : count_in (pieces bin_pattern) ≡ 4
unfolding count_in piece
bin_count = refl

pub close_count : count_in (pieces close_pattern) ≡ 0
unfolding count_in piece
close_count = refl

-- the first three, or four, of five numbers
first_three : (N : List ℕ) → length N ≡ 5 → take 3 N ≡ get_or N 0 0 ∷ get_or N 1 0 ∷ get_or N 2 0 ∷ []
first_three [] h = absurd (omega arith)
first_three (a ∷ []) h = absurd (omega arith)
first_three (a ∷ b ∷ []) h = absurd (omega arith)
first_three (a ∷ b ∷ c ∷ N) h = refl

first_four : (N : List ℕ) → length N ≡ 5 → take 4 N ≡ get_or N 0 0 ∷ get_or N 1 0 ∷ get_or N 2 0 ∷ get_or N 3 0 ∷ []
first_four [] h = absurd (omega arith)
first_four (a ∷ []) h = absurd (omega arith)
first_four (a ∷ b ∷ []) h = absurd (omega arith)
first_four (a ∷ b ∷ c ∷ []) h = absurd (omega arith)
first_four (a ∷ b ∷ c ∷ d ∷ N) h = refl

-- three words of offsets
words_small : (x y z : ℕ) → T (ltb x offset_words && (ltb y offset_words && (ltb z offset_words && true))) → InWords (record { x = x; y = y; z = z })
words_small x y z t =
    let yz : T (ltb y offset_words && (ltb z offset_words && true)) = and_r (ltb x offset_words) _ t in
    let zs : T (ltb z offset_words && true) = and_r (ltb y offset_words) _ yz in
    record {
      x_small = ltb→lt x offset_words (and_l (ltb x offset_words) _ t);
      y_small = ltb→lt y offset_words (and_l (ltb y offset_words) _ yz);
      z_small = ltb→lt z offset_words (and_l (ltb z offset_words) true zs);
    }

module _ (line N : List ℕ) (r : Bool) (v : Scanned (pieces group_pattern) line N r) where
  -- the line opens a group
  pub opens : length N ≡ 5 → r ≡ true → Line (line_of line) (PlanLine.Open (record { x = get_or N 0 0; y = get_or N 1 0; z = get_or N 2 0 }))
  unfolding line_of opened given Small ended
  opens h e =
      let ns : List ℕ = get_or N 0 0 ∷ get_or N 1 0 ∷ get_or N 2 0 ∷ [] in
      let here : read group_form line ≡ some ns =
      sym (group_read line) ∙ sym v.is ∙ ap (λ (b : Bool). cond b (some (take (count_in (pieces group_pattern)) N)) none) e
      ∙ ap (λ (n : ℕ). some (take n N)) group_count ∙ ap some (first_three N h) in
      record { is = sym (rw (here, line_of)); small = words_small (get_or N 0 0) (get_or N 1 0) (get_or N 2 0) (read_fits group_form line ns here); there = refl }

  -- it opens none
  opens_none : r ≡ false → read group_form line ≡ none
  opens_none e = sym (group_read line) ∙ sym v.is ∙ ap (λ (b : Bool). cond b (some (take (count_in (pieces group_pattern)) N)) none) e

  module _ (q : r ≡ false) (M : List ℕ) (s : Bool) (w : Scanned (pieces bin_pattern) line M s) where
    bin_here : length M ≡ 5 → s ≡ true → read bin_form line ≡ some (get_or M 0 0 ∷ get_or M 1 0 ∷ get_or M 2 0 ∷ get_or M 3 0 ∷ [])
    bin_here h e =
        sym (bin_read line) ∙ sym w.is ∙ ap (λ (b : Bool). cond b (some (take (count_in (pieces bin_pattern)) M)) none) e
        ∙ ap (λ (n : ℕ). some (take n M)) bin_count ∙ ap some (first_four M h)

    -- a bin stands
    pub stands : length M ≡ 5 → s ≡ true → get_or M 0 0 ≤ 65535 → Line (line_of line) (PlanLine.Bin (get_or M 0 0) (record { x = get_or M 1 0; y = get_or M 2 0; z = get_or M 3 0 }))
    unfolding line_of standing given Small ended
    stands h e m =
        let ns : List ℕ = get_or M 0 0 ∷ get_or M 1 0 ∷ get_or M 2 0 ∷ get_or M 3 0 ∷ [] in
        let here : read bin_form line ≡ some ns = bin_here h e in
        record {
          is = sym (rw (opens_none q, here, line_of, le-leb (get_or M 0 0) most_bin m));
          small = (m, words_small (get_or M 1 0) (get_or M 2 0) (get_or M 3 0) (and_r (ltb (get_or M 0 0) (2 ^ 32)) _ (read_fits bin_form line ns here)));
          there = refl;
        }

    -- its number is out of range
    pub stands_none : length M ≡ 5 → s ≡ true → 65535 < get_or M 0 0 → Line (line_of line) PlanLine.Malformed
    unfolding line_of standing given Small ended
    stands_none h e m = record { is = sym (rw (opens_none q, bin_here h e, line_of, lt-leb (get_or M 0 0) most_bin m)); small = tt; there = refl }

    bin_none : s ≡ false → read bin_form line ≡ none
    bin_none e = sym (bin_read line) ∙ sym w.is ∙ ap (λ (b : Bool). cond b (some (take (count_in (pieces bin_pattern)) M)) none) e

    module _ (z : s ≡ false) (K : List ℕ) (t : Bool) (u : Scanned (pieces close_pattern) line K t) where
      -- it closes a group
      pub closes : t ≡ true → Line (line_of line) PlanLine.Close
      unfolding line_of given Small ended
      closes e =
          let here : read close_form line ≡ some (take (count_in (pieces close_pattern)) K) =
          sym (close_read line) ∙ sym u.is ∙ ap (λ (b : Bool). cond b (some (take (count_in (pieces close_pattern)) K)) none) e in
          record { is = sym (rw (opens_none q, bin_none z, here, line_of)); small = tt; there = refl }

      -- it is no line of a plan
      pub no_form : t ≡ false → Line (line_of line) PlanLine.Malformed
      unfolding line_of given Small ended
      no_form e =
          let here : read close_form line ≡ none = sym (close_read line) ∙ sym u.is ∙ ap (λ (b : Bool). cond b (some (take (count_in (pieces close_pattern)) K)) none) e in
          record { is = sym (rw (opens_none q, bin_none z, here, line_of)); small = tt; there = refl }

-- ---- the line at a place
pub found_none : (text : List ℕ) (at : ℕ) → at ≤ length text → length text ≤ at → Found text at (record { line = PlanLine.End; end = at })
unfolding ended Small Lines.lines_of
found_none text at h l = record {
  within = h;
  from = omega arith;
  small = tt;
  begins = λ e. absurd (no e);
  none_left = λ e. ap Lines.lines_of (drop_of_length-le text l);
}
  where
    no : true ≡ false → ⊥
    no e = let z : ◌≡◌ {A = ℕ} 0 1 = cc in omega arith

pub found_line : (text : List ℕ) (at end : ℕ) (r : PlanLine) → LineEnd text at end → Line (line_of (take (end - at) (drop at text))) r → Found text at (record { line = r; end = end })
found_line text at end r v w = record {
  within = v.within;
  from = omega (arith, v.more);
  small = w.small;
  begins = λ e. record { bytes = slice at end text; cut = v.cut; is = w.is ∙ ap line_of (sym (bytes_between at end text)); more = v.more };
  none_left = λ e. absurd (no (sym w.there ∙ e));
}
  where
    no : false ≡ true → ⊥
    no e = let z : ◌≡◌ {A = ℕ} 0 1 = cc in omega arith
