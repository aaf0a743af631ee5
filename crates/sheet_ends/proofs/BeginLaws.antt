-- The laws of the beginning. Assumes nothing.
use mathlib.Core.List.{List, ◌∷◌, ◌++◌}
use mathlib.Core.Path.{◌≡◌, refl, sym, ◌∙◌, ap}
use Prim.Native.Nat.{ℕ, zero, suc, ◌+◌, ◌≤◌, ◌<◌}
use native.Mathlib.Omega.{arith}
use borrow.Author.Tests.{eq-eqb, ne_eqb, le-leb, lt-leb}
use lib.ListN.{length, take, drop, replicate, drop_of_length-le, length-replicate}
use lib.Seq.{take_all}
use Rattle.sheet_line_order.specs.declared.Limits.{Limits}
use Rattle.sheet_reader_state.specs.declared.Reader.{Reader}
use Rattle.sheet_line_order.specs.Reading.{start}
use Rattle.sheet_reader_state.specs.Slices.{Begun, ended, reader_of, refused}

front : (m n : ℕ) → m ≤ n → replicate {A = ℕ} m 0 ≡ take m (replicate n 0)
front zero n l = refl
front (suc m) zero l = absurd (omega arith)
front (suc m) (suc n) l = ap (λ (xs : List ℕ). 0 ∷ xs) (front m n (omega arith))

module _ (limits : Limits) (M W : List ℕ) (r : Reader) where
  -- how many face numbers there are
  abbrev faces : ℕ
  faces = limits.face + 1

  pub begun_short : length M ≤ limits.face → W ≡ replicate (length M) 0 ++ drop (length M) M → r ≡ reader_of (start limits) → Begun limits M r W
  begun_short h e q =
      let past : length M ≤ faces = omega arith in
      let whole : length M ≤ length M = omega arith in
      record {
        reader = q;
        materials = e ∙ ap (λ (xs : List ℕ). xs ++ drop (length M) M) (front (length M) faces past)
            ∙ ap (λ (xs : List ℕ). take (length M) (replicate faces 0) ++ xs) (drop_of_length-le M whole ∙ sym (drop_of_length-le M past));
      }

  pub begun_long : limits.face < length M → W ≡ replicate (limits.face + 1) 0 ++ drop (limits.face + 1) M → r ≡ reader_of (start limits) → Begun limits M r W
  begun_long h e q =
      let few : length (replicate {A = ℕ} faces 0) ≤ length M = omega (arith, length-replicate {A = ℕ} faces 0) in
      record { reader = q; materials = e ∙ ap (λ (xs : List ℕ). xs ++ drop faces M) (sym (take_all (length M) (replicate faces 0) few)) }
