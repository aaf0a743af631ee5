-- The sheet malformed-3, and what the Rust prints for it. Made by reference/evaluate. Assumes nothing.
use Rattle.std.specs.Prelude.{List, [], ◌∷◌, ◌≡◌, refl, ℕ}
use Rattle.sheet_digits.specs.Bytes.{bytes, lines}
use Rattle.sheet_meaning.specs.Bench.{bench}
use Rattle.sheet_meaning.specs.Evaluation.{evaluation}

-- the sheet
pub text : List ℕ
text =
    lines (bytes "(box C030000000000000 C043800000000000 3FF0000000000000 C02E000000000000 C03D000000000000 4000000000000000)"
    ∷ bytes "(sag 3FD0000000000000)"
    ∷ bytes "(default -)"
    ∷ bytes "(material 7 3)"
    ∷ bytes "(face 0 0)"
    ∷ bytes "(v (p C1800000 C21C0000 3F800000) (n 00000000 00000000 BF800000))"
    ∷ bytes "(v (p C1800000 C1E80000 3F800000) (n 00000000 00000000 BF800000))"
    ∷ bytes "(v (p C1700000 C1E80000 3F800000) (n 00000000 00000000 BF800000))"
    ∷ bytes "(v (p C1700000 C21C0000 3F800000) (n 00000000 00000000 BF800000))"
    ∷ bytes "(v (p C1800000 C21C0000 40000000) (n 00000000 00000000 BF800000))"
    ∷ bytes "(v (p C1700000 C21C0000 40000000) (n 00000000 00000000 BF800000))"
    ∷ bytes "(v (p C1700000 C1E80000 40000000) (n 00000000 00000000 BF800000))"
    ∷ bytes "(v (p C1800000 C1E80000 40000000) (n 00000000 00000000 BF800000))"
    ∷ bytes "(t 0 1 2)"
    ∷ bytes "(t 0 2 3)"
    ∷ bytes "(t 4 5 6)"
    ∷ bytes "(default -)"
    ∷ bytes "(t 4 6 7)"
    ∷ bytes "(t 0 3 5)"
    ∷ bytes "(t 0 5 4)"
    ∷ bytes "(face 0 1)"
    ∷ bytes "(v (p C1800000 C1E80000 3F800000) (n 00000000 3F800000 00000000))"
    ∷ bytes "(v (p C1800000 C1E80000 40000000) (n 00000000 3F800000 00000000))"
    ∷ bytes "(v (p C1700000 C1E80000 40000000) (n 00000000 3F800000 00000000))"
    ∷ bytes "(v (p C1700000 C1E80000 3F800000) (n 00000000 3F800000 00000000))"
    ∷ bytes "(v (p C1800000 C21C0000 3F800000) (n 00000000 3F800000 00000000))"
    ∷ bytes "(v (p C1800000 C21C0000 40000000) (n 00000000 3F800000 00000000))"
    ∷ bytes "(v (p C1700000 C21C0000 3F800000) (n 00000000 3F800000 00000000))"
    ∷ bytes "(v (p C1700000 C21C0000 40000000) (n 00000000 3F800000 00000000))"
    ∷ bytes "(t 0 1 2)"
    ∷ bytes "(t 0 2 3)"
    ∷ bytes "(t 4 5 1)"
    ∷ bytes "(t 4 1 0)"
    ∷ bytes "(t 6 3 2)"
    ∷ bytes "(t 6 2 7)"
    ∷ [])

-- what is printed
pub answer : List ℕ
answer =
    lines (bytes "(refused 51)"
    ∷ [])

-- The definitions yield it.
pub finished : bench text ≡ answer
unfolding evaluation text answer
finished = refl
