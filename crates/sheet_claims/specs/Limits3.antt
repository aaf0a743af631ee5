-- The sheet limits-3, and what the Rust prints for it. Made by reference/evaluate. Assumes nothing.
use Rattle.std.specs.Prelude.{List, [], ◌∷◌, ◌≡◌, refl, ℕ}
use Rattle.sheet_digits.specs.Bytes.{bytes, lines}
use Rattle.sheet_meaning.specs.Bench.{bench}
use Rattle.sheet_meaning.specs.Evaluation.{evaluation}

-- the sheet
pub text : List ℕ
text =
    lines (bytes "(box 4036000000000000 C041000000000000 4035000000000000 4093A20000000000 C03F800000000000 4037800000000000)"
    ∷ bytes "(sag 3F50624DD2F1A9FC)"
    ∷ bytes "(default -)"
    ∷ bytes "(material 65 1)"
    ∷ bytes "(face 0 0)"
    ∷ bytes "(v (p 41B00000 C2080000 41A80000) (n 80000000 80000000 3F800000))"
    ∷ bytes "(v (p 41B00000 C1FC0000 41A80000) (n 80000000 80000000 3F800000))"
    ∷ bytes "(v (p 449D1000 C1FC0000 41A80000) (n 80000000 80000000 3F800000))"
    ∷ bytes "(v (p 449D1000 C2080000 41A80000) (n 80000000 80000000 3F800000))"
    ∷ bytes "(v (p 41B00000 C2080000 41BC0000) (n 80000000 80000000 3F800000))"
    ∷ bytes "(v (p 449D1000 C2080000 41BC0000) (n 80000000 80000000 3F800000))"
    ∷ bytes "(v (p 449D1000 C1FC0000 41BC0000) (n 80000000 80000000 3F800000))"
    ∷ bytes "(v (p 41B00000 C1FC0000 41BC0000) (n 80000000 80000000 3F800000))"
    ∷ bytes "(t 0 2 1)"
    ∷ bytes "(t 0 3 2)"
    ∷ bytes "(t 4 6 5)"
    ∷ bytes "(t 4 7 6)"
    ∷ bytes "(t 0 5 3)"
    ∷ bytes "(t 0 4 5)"
    ∷ bytes "(face 0 1)"
    ∷ bytes "(v (p 41B00000 C1FC0000 41A80000) (n 80000000 BF800000 80000000))"
    ∷ bytes "(v (p 41B00000 C1FC0000 41BC0000) (n 80000000 BF800000 80000000))"
    ∷ bytes "(v (p 449D1000 C1FC0000 41BC0000) (n 80000000 BF800000 80000000))"
    ∷ bytes "(v (p 449D1000 C1FC0000 41A80000) (n 80000000 BF800000 80000000))"
    ∷ bytes "(v (p 41B00000 C2080000 41A80000) (n 80000000 BF800000 80000000))"
    ∷ bytes "(v (p 41B00000 C2080000 41BC0000) (n 80000000 BF800000 80000000))"
    ∷ bytes "(v (p 449D1000 C2080000 41A80000) (n 80000000 BF800000 80000000))"
    ∷ bytes "(v (p 449D1000 C2080000 41BC0000) (n 80000000 BF800000 80000000))"
    ∷ bytes "(t 0 2 1)"
    ∷ bytes "(t 0 3 2)"
    ∷ bytes "(t 4 1 5)"
    ∷ bytes "(t 4 0 1)"
    ∷ bytes "(t 6 2 3)"
    ∷ bytes "(t 6 7 2)"
    ∷ [])

-- what is printed
pub answer : List ℕ
answer =
    lines (bytes "(refused 52)"
    ∷ [])

-- The definitions yield it.
pub finished : bench text ≡ answer
unfolding evaluation text answer
finished = refl
