-- The laws of a front in its slice. Assumes nothing.
use mathlib.Core.List.{List, ◌++◌, append_assoc}
use mathlib.Core.Path.{◌≡◌, sym, ◌∙◌, ap}
use Prim.Native.Nat.{ℕ, ◌+◌, ◌≤◌, ◌<◌}
use lib.ListN.{length, take, drop, set, length-append, length-set, take-append-drop}
use lib.Seq.{length-take-le, take-set-lt, drop-set-lt}
use Rattle.sheet_storing.specs.Placed.{placed}
use Rattle.sheet_reader_state.specs.Slices.{onto}

-- more behind the front
pub grown : (n : ℕ) (xs vs : List ℕ) → n ≤ length xs → placed xs n vs ≡ onto (take n xs ++ vs) xs
grown n xs vs h =
    let long : length (take n xs ++ vs) ≡ n + length vs = length-append (take n xs) vs ∙ ap (λ (k : ℕ). k + length vs) (length-take-le n xs h) in
    sym (append_assoc (take n xs) vs (drop (n + length vs) xs)) ∙ ap (λ (k : ℕ). (take n xs ++ vs) ++ drop k xs) (sym long)

-- another number in the front
pub changed : (n : ℕ) (xs : List ℕ) (i v : ℕ) → i < n → n ≤ length xs → set xs i v ≡ onto (set (take n xs) i v) xs
changed n xs i v l h =
    let long : length (set (take n xs) i v) ≡ n = length-set (take n xs) i v ∙ length-take-le n xs h in
    sym (take-append-drop n (set xs i v))
    ∙ ap (λ (ys : List ℕ). ys ++ drop n (set xs i v)) (take-set-lt n xs i v l)
    ∙ ap (λ (ys : List ℕ). set (take n xs) i v ++ ys) (drop-set-lt n xs i v l)
    ∙ ap (λ (k : ℕ). set (take n xs) i v ++ drop k xs) (sym long)
