-- A slice to which items were written behind what it holds: what was written, and how such writing adds up. Assumes nothing.
use Rattle.std.specs.Prelude.{◌≡◌, refl, ℕ, ◌+◌, ◌-◌, ◌≤◌}
use Rattle.std.proofs.Math.Path.{sym, ap}
use Rattle.std.proofs.Common.{◌∙◌, subst, add-zero, arith, length-append, length-take, length-drop, take-append-drop, take_at, length-take-le, drop-drop}
use mathlib.Core.List.{List, [], ◌++◌, append_assoc, append-nil}
use Rattle.std.proofs.Math.Nat.{zero-add}
use Rattle.std.proofs.Math.ListN.{length, take, drop, replicate, length-replicate}
use Rattle.std.proofs.lemmas.List.Edits.{sets, sets-eq}
use Rattle.lists.specs.Lists.{written}
use Rattle.lists.specs.Sets.{drop_sets, part_sets}
use Rattle.lists.specs.Stretches.{rest_less}
use borrow.Rule.Slice.PartMut.{put_mid}

-- `out` became `new`: from place o on the items xs were written, and all else is as it was
pub record Appended {A : Type 0} (o : ℕ) (xs out new : List A) : Type 0 where
  pub content : take (o + length xs) new ≡ take o out ++ xs
  pub rest : drop (o + length xs) new ≡ drop (o + length xs) out

module _ {A : Type 0} where
  -- nothing was appended
  pub appended_none : (o : ℕ) (out : List A) → Appended o [] out out
  appended_none o out = record {
    content = ap (λ (n : ℕ). take n out) (add-zero o) ∙ sym (append-nil (take o out));
    rest = refl;
  }

  -- appended twice is appended once
  pub appended_twice : {o : ℕ} {xs ys out mid new : List A} → Appended o xs out mid → Appended (o + length xs) ys mid new → Appended o (xs ++ ys) out new
  appended_twice {o} {xs} {ys} {out} {mid} {new} p q =
      let e : o + length (xs ++ ys) ≡ o + length xs + length ys = omega (arith, length-append xs ys) in
      record {
        content =
            ap (λ (n : ℕ). take n new) e
            ∙ q.content
            ∙ ap (λ (l : List A). l ++ ys) p.content
            ∙ append_assoc (take o out) xs ys;
        rest =
            ap (λ (n : ℕ). drop n new) e
            ∙ q.rest
            ∙ rest_less (o + length xs) (o + length xs + length ys) out mid p.rest (omega arith)
            ∙ ap (λ (n : ℕ). drop n out) (sym e);
      }

  -- from the place p where the first ended
  pub appended_then : {o p : ℕ} {xs ys out mid new : List A} → Appended o xs out mid → p ≡ o + length xs → Appended p ys mid new → Appended o (xs ++ ys) out new
  appended_then {ys = ys} {mid = mid} {new = new} a e b = appended_twice a (subst (λ (n : ℕ). Appended n ys mid new) e b)

  -- what was appended from place 0 on was written to the front
  pub appended_written : {xs out new : List A} → Appended 0 xs out new → new ≡ written xs out
  unfolding written
  appended_written {xs} {out} {new} p =
      let e = zero-add (length xs) in
      sym (take-append-drop (length xs) new)
      ∙ ap (λ (l : List A). l ++ drop (length xs) new) (ap (λ (n : ℕ). take n new) (sym e) ∙ p.content)
      ∙ ap (λ (l : List A). xs ++ l) (ap (λ (n : ℕ). drop n new) (sym e) ∙ p.rest ∙ ap (λ (n : ℕ). drop n out) e)

  -- what was appended from place o on stands behind what was there
  pub appended_behind : {o : ℕ} {xs out new : List A} → Appended o xs out new → new ≡ take o out ++ written xs (drop o out)
  unfolding written
  appended_behind {o} {xs} {out} {new} p =
      sym (take-append-drop (o + length xs) new)
      ∙ (λ j. p.content j ++ p.rest j)
      ∙ append_assoc (take o out) xs (drop (o + length xs) out)
      ∙ ap (λ (l : List A). take o out ++ (xs ++ l)) (sym (drop-drop (length xs) o out))

  -- a slice with room for what was appended is as long as it was
  pub appended_long : {o : ℕ} {xs out new : List A} → Appended o xs out new → o + length xs ≤ length out → length new ≡ length out
  appended_long {o} {xs} {out} {new} p h =
      let n = o + length xs in
      let front : length (take n new) ≡ n = ap length p.content ∙ length-append (take o out) xs ∙ ap (λ (m : ℕ). m + length xs) (length-take-le o out (omega arith)) in
      let back : length new - n ≡ length out - n = sym (length-drop n new) ∙ ap length p.rest ∙ length-drop n out in
      let low = length-take n new in
      omega arith

  -- a run of stores appends what was stored
  pub appended_sets : {o : ℕ} {xs out new : List A} → o + length xs ≤ length out → new ≡ sets out o xs → Appended o xs out new
  appended_sets {o} {xs} {out} {new} h e =
      let n = o + length xs in
      let long : length (take o out ++ xs) ≡ n = length-append (take o out) xs ∙ ap (λ (m : ℕ). m + length xs) (length-take-le o out (omega arith)) in
      record {
        content = ap (take n) (e ∙ sets-eq xs out o h) ∙ take_at (take o out ++ xs) (drop n out) n long;
        rest = ap (drop n) e ∙ drop_sets out o xs n (omega arith);
      }

  -- a part that was lent and came back with xs
  pub appended_part : (o n : ℕ) {xs ys out : List A} → ys ≡ xs → length xs ≡ n → o + n ≤ length out → Appended o xs out (put_mid o n out ys)
  appended_part o n {xs} {ys} {out} e long h = appended_sets (omega arith) (part_sets out o n ys (ap length e ∙ long) h ∙ ap (sets out o) e)

  -- a front that was lent and was filled with one item
  pub appended_filled : (n : ℕ) (x : A) {ys out : List A} → ys ≡ replicate (length (take n out)) x → n ≤ length out → Appended 0 (replicate n x) out (ys ++ drop n out)
  appended_filled n x {ys} {out} e h = appended_part 0 n (e ∙ ap (λ (m : ℕ). replicate m x) (length-take-le n out h)) (length-replicate n x) (omega arith)

  -- what was appended behind p items that were appended is appended to them
  pub behind : {p : ℕ} {xs ys out mid new : List A} → Appended 0 xs out mid → length xs ≡ p → Appended p ys mid new → Appended 0 (xs ++ ys) out new
  behind a e b = appended_then a (omega arith) b

  -- a part with a front before it and a rest behind it is at most as long as the whole
  pub part_low : (xs ys zs all : List A) → xs ++ (ys ++ zs) ≡ all → length xs + length ys ≤ length all
  part_low xs ys zs all e = omega (arith, ap length e, length-append xs (ys ++ zs), length-append ys zs)
