-- The laws of writing at a place: nothing, and one text after another. Assumes nothing.
use Rattle.std.specs.Prelude.{List, [], ◌∷◌, ◌++◌, ◌≡◌, refl, ℕ, zero, suc, ◌+◌, ◌-◌, ◌≤◌, length, take, drop}
use Rattle.std.proofs.Common.{append-nil, append_assoc, sym, ◌∙◌, ap, arith, length-append, length-take, drop-drop, take_all}
use Rattle.sheet_digit_writing.specs.Writing.{Wrote}

-- Cutting a text off and again with more behind it is cutting it off once.
pub take_again : (n : ℕ) (xs ys : List ℕ) → take n (take n xs ++ ys) ≡ take n (xs ++ ys)
take_again zero xs ys = refl
take_again (suc n) [] ys = refl
take_again (suc n) (x ∷ xs) ys = ap (λ (zs : List ℕ). x ∷ zs) (take_again n xs ys)

-- What agrees from a place on agrees from every later one.
drop_more : (r q : ℕ) (xs ys : List ℕ) → r ≤ q → drop r xs ≡ drop r ys → drop q xs ≡ drop q ys
drop_more r q xs ys h e = sym (both r q xs h) ∙ ap (drop (q - r)) e ∙ both r q ys h
  where
    both : (r q : ℕ) (xs : List ℕ) → r ≤ q → drop (q - r) (drop r xs) ≡ drop q xs
    both r q xs h = drop-drop (q - r) r xs ∙ ap (λ (n : ℕ). drop n xs) (let e : r + (q - r) ≡ q = omega arith in e)

pub wrote_none : (E : List ℕ) (at : ℕ) → at ≤ length E → Wrote E at [] E at
wrote_none E at h =
    let short : length (take at E ++ []) ≤ length E = simp (length-append, length-take) (omega arith) in
    record { long = refl; more = omega arith; within = h; front = sym (append-nil (take at E)) ∙ sym (take_all (length E) (take at E ++ []) short); rest = refl }

-- One text and then another are the two together.
pub wrote_then : {E : List ℕ} {at : ℕ} {a W : List ℕ} {r : ℕ} {b U : List ℕ} {q : ℕ} → Wrote E at a W r → Wrote W r b U q → Wrote E at (a ++ b) U q
wrote_then {E} {at} {a} {W} {r} {b} {U} {q} v w =
    record {
      long = w.long ∙ v.long;
      more = omega (arith, v.more, w.more);
      within = omega (arith, w.within, v.long);
      front =
          w.front
          ∙ ap (λ (n : ℕ). take n (take r W ++ b)) v.long
          ∙ ap (λ (xs : List ℕ). take (length E) (xs ++ b)) v.front
          ∙ take_again (length E) (take at E ++ a) b
          ∙ ap (take (length E)) (append_assoc (take at E) a b);
      rest = w.rest ∙ drop_more r q W E w.more v.rest;
    }
