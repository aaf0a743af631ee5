-- The sheet worked-example, and what the Rust prints for it. Made by reference/evaluate. Assumes nothing.
use Rattle.std.specs.Prelude.{List, [], ◌∷◌, ◌≡◌, refl, ℕ}
use Rattle.sheet_digits.specs.Bytes.{bytes, lines}
use Rattle.sheet_meaning.specs.Bench.{bench}
use Rattle.sheet_meaning.specs.Evaluation.{evaluation}

-- the sheet
pub text : List ℕ
text =
    lines (bytes "(box 0000000000000000 0000000000000000 0000000000000000 4024000000000000 4024000000000000 0000000000000000)"
    ∷ bytes "(sag 3FD0000000000000)"
    ∷ bytes "(default -)"
    ∷ bytes "(material 7 3)"
    ∷ bytes "(face 0 7)"
    ∷ bytes "(v (p 00000000 00000000 00000000) (n 00000000 00000000 3F800000))"
    ∷ bytes "(v (p 41200000 00000000 00000000) (n 00000000 00000000 3F800000))"
    ∷ bytes "(v (p 00000000 41200000 00000000) (n 00000000 00000000 3F800000))"
    ∷ bytes "(t 0 1 2)"
    ∷ bytes "(face 0 8)"
    ∷ bytes "(v (p 41200000 00000000 00000000) (n 00000000 00000000 3F800000))"
    ∷ bytes "(v (p 00000000 41200000 00000000) (n 00000000 00000000 3F800000))"
    ∷ bytes "(v (p 41200000 41200000 00000000) (n 00000000 00000000 3F800000))"
    ∷ bytes "(t 0 1 2)"
    ∷ [])

-- what is printed
pub answer : List ℕ
answer =
    lines (bytes "(mesh 6 6)"
    ∷ bytes "(v (p 00000000 00000000 00000000) (n 00000000 00000000 3F800000))"
    ∷ bytes "(v (p 41200000 00000000 00000000) (n 00000000 00000000 3F800000))"
    ∷ bytes "(v (p 00000000 41200000 00000000) (n 00000000 00000000 3F800000))"
    ∷ bytes "(v (p 41200000 00000000 00000000) (n 80000000 80000000 BF800000))"
    ∷ bytes "(v (p 00000000 41200000 00000000) (n 80000000 80000000 BF800000))"
    ∷ bytes "(v (p 41200000 41200000 00000000) (n 80000000 80000000 BF800000))"
    ∷ bytes "(part 0 0 3)"
    ∷ bytes "(part 3 3 3)"
    ∷ bytes "(t 3 5 4)"
    ∷ bytes "(t 0 1 2)"
    ∷ bytes "(range 7 0 3 6)"
    ∷ bytes "(range 8 0 0 3)"
    ∷ bytes "(turned 1)"
    ∷ bytes "(against 0)"
    ∷ bytes "(split 0)"
    ∷ bytes "(ok 2)"
    ∷ bytes "(edges 5)"
    ∷ bytes "(open 4)"
    ∷ bytes "(over 0)"
    ∷ bytes "(closed 0)"
    ∷ [])

-- The definitions yield it.
pub finished : bench text ≡ answer
unfolding evaluation text answer
finished = refl
