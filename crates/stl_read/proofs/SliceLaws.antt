-- The row and the indices written. Assumes nothing.
use mathlib.Core.Path.{refl, ap, ◌∙◌}
use mathlib.Core.List.{List, [], ◌∷◌, ◌++◌}
use Prim.Native.Nat.{ℕ, ◌+◌, ◌≤◌, ◌<◌}
use native.Mathlib.Nat.{zero-add}
use native.Mathlib.Omega.{arith}
use lib.ListN.{length, set}
use Rattle.slice_append.specs.Appended.{Appended}
use Rattle.stl_definition.specs.CornerLaws.{numbers_length, numbers_more}
use Rattle.stl_definition.specs.FrontLaws.{Front, front_none, front_more, front_all, stored}
use Rattle.stl_definition.specs.Read.{numbers_from}

-- the first k of n numbers are written: E became W
abbrev pub Numbered : ℕ → ℕ → List ℕ → List ℕ → Type 0
Numbered n k E W = Front 0 (numbers_from 0) n k E W

pub numbered_none : (n : ℕ) (E : List ℕ) → Numbered n 0 E E
unfolding numbers_from
numbered_none n E = front_none 0 (numbers_from 0) n E refl

pub numbered_more : {n k : ℕ} {E W : List ℕ} → Numbered n k E W → k < n → n ≤ length E → Numbered n (k + 1) E (set W k k)
numbered_more {n} {k} {E} {W} q h room =
    let g = q.long in
    front_more q h (numbers_more 0 k ∙ ap (λ (m : ℕ). numbers_from 0 k ++ m ∷ []) (zero-add k)) (omega (arith, numbers_length 0 k)) (omega arith) (stored W k k (omega arith))

pub numbered_all : {n k : ℕ} {E W : List ℕ} → Numbered n k E W → n ≤ k → Appended 0 (numbers_from 0 n) E W
numbered_all q h = front_all q h
