-- The sheet moebius-strip, and what the Rust prints for it. Made by reference/evaluate. Assumes nothing.
use Rattle.std.specs.Prelude.{List, [], ◌∷◌, ◌≡◌, refl, ℕ}
use Rattle.sheet_digits.specs.Bytes.{bytes, lines}
use Rattle.sheet_meaning.specs.Bench.{bench}
use Rattle.sheet_meaning.specs.Evaluation.{evaluation}

-- the sheet
pub text : List ℕ
text =
    lines (bytes "(box 0000000000000000 0000000000000000 0000000000000000 0000000000000000 0000000000000000 0000000000000000)"
    ∷ bytes "(sag 3FD0000000000000)"
    ∷ bytes "(default -)"
    ∷ bytes "(face 0 0)"
    ∷ bytes "(v (p 00000000 00000000 00000000) (n 00000000 00000000 3F800000))"
    ∷ bytes "(v (p 40800000 00000000 00000000) (n 00000000 00000000 3F800000))"
    ∷ bytes "(v (p 40A00000 40400000 00000000) (n 00000000 00000000 3F800000))"
    ∷ bytes "(t 0 1 2)"
    ∷ bytes "(face 0 1)"
    ∷ bytes "(v (p 40800000 00000000 00000000) (n 00000000 00000000 3F800000))"
    ∷ bytes "(v (p 40A00000 40400000 00000000) (n 00000000 00000000 3F800000))"
    ∷ bytes "(v (p 40000000 40A00000 00000000) (n 00000000 00000000 3F800000))"
    ∷ bytes "(t 0 1 2)"
    ∷ bytes "(face 0 2)"
    ∷ bytes "(v (p 40A00000 40400000 00000000) (n 00000000 00000000 3F800000))"
    ∷ bytes "(v (p 40000000 40A00000 00000000) (n 00000000 00000000 3F800000))"
    ∷ bytes "(v (p 00000000 40400000 00000000) (n 00000000 00000000 3F800000))"
    ∷ bytes "(t 0 1 2)"
    ∷ bytes "(face 0 3)"
    ∷ bytes "(v (p 40000000 40A00000 00000000) (n 00000000 00000000 3F800000))"
    ∷ bytes "(v (p 00000000 40400000 00000000) (n 00000000 00000000 3F800000))"
    ∷ bytes "(v (p 00000000 00000000 00000000) (n 00000000 00000000 3F800000))"
    ∷ bytes "(t 0 1 2)"
    ∷ bytes "(face 0 4)"
    ∷ bytes "(v (p 00000000 40400000 00000000) (n 00000000 00000000 3F800000))"
    ∷ bytes "(v (p 00000000 00000000 00000000) (n 00000000 00000000 3F800000))"
    ∷ bytes "(v (p 40800000 00000000 00000000) (n 00000000 00000000 3F800000))"
    ∷ bytes "(t 0 1 2)"
    ∷ [])

-- what is printed
pub answer : List ℕ
answer =
    lines (bytes "(mesh 15 15)"
    ∷ bytes "(v (p 00000000 00000000 00000000) (n 00000000 00000000 3F800000))"
    ∷ bytes "(v (p 40800000 00000000 00000000) (n 00000000 00000000 3F800000))"
    ∷ bytes "(v (p 40A00000 40400000 00000000) (n 00000000 00000000 3F800000))"
    ∷ bytes "(v (p 40800000 00000000 00000000) (n 80000000 80000000 BF800000))"
    ∷ bytes "(v (p 40A00000 40400000 00000000) (n 80000000 80000000 BF800000))"
    ∷ bytes "(v (p 40000000 40A00000 00000000) (n 80000000 80000000 BF800000))"
    ∷ bytes "(v (p 40A00000 40400000 00000000) (n 00000000 00000000 3F800000))"
    ∷ bytes "(v (p 40000000 40A00000 00000000) (n 00000000 00000000 3F800000))"
    ∷ bytes "(v (p 00000000 40400000 00000000) (n 00000000 00000000 3F800000))"
    ∷ bytes "(v (p 40000000 40A00000 00000000) (n 00000000 00000000 3F800000))"
    ∷ bytes "(v (p 00000000 40400000 00000000) (n 00000000 00000000 3F800000))"
    ∷ bytes "(v (p 00000000 00000000 00000000) (n 00000000 00000000 3F800000))"
    ∷ bytes "(v (p 00000000 40400000 00000000) (n 80000000 80000000 BF800000))"
    ∷ bytes "(v (p 00000000 00000000 00000000) (n 80000000 80000000 BF800000))"
    ∷ bytes "(v (p 40800000 00000000 00000000) (n 80000000 80000000 BF800000))"
    ∷ bytes "(part 0 0 15)"
    ∷ bytes "(t 0 1 2)"
    ∷ bytes "(t 3 5 4)"
    ∷ bytes "(t 6 7 8)"
    ∷ bytes "(t 9 10 11)"
    ∷ bytes "(t 12 14 13)"
    ∷ bytes "(range 0 0 0 3)"
    ∷ bytes "(range 1 0 3 6)"
    ∷ bytes "(range 2 0 6 9)"
    ∷ bytes "(range 3 0 9 12)"
    ∷ bytes "(range 4 0 12 15)"
    ∷ bytes "(turned 2)"
    ∷ bytes "(against 2)"
    ∷ bytes "(split 0)"
    ∷ bytes "(ok 5)"
    ∷ bytes "(edges 10)"
    ∷ bytes "(open 5)"
    ∷ bytes "(over 0)"
    ∷ bytes "(closed 0)"
    ∷ [])

-- The definitions yield it.
pub finished : bench text ≡ answer
unfolding evaluation text answer
finished = refl
