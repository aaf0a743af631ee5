-- The sheet sag-3, and what the Rust prints for it. Made by reference/evaluate. Assumes nothing.
use Rattle.std.specs.Prelude.{List, [], ◌∷◌, ◌≡◌, refl, ℕ}
use Rattle.sheet_digits.specs.Bytes.{bytes, lines}
use Rattle.sheet_meaning.specs.Bench.{bench}
use Rattle.sheet_meaning.specs.Evaluation.{evaluation}

-- the sheet
pub text : List ℕ
text =
    lines (bytes "(box C024000000000000 0000000000000000 0000000000000000 4024000000000000 0000000000000000 4024000000000000)"
    ∷ bytes "(sag 7FF0000000000000)"
    ∷ bytes "(default -)"
    ∷ bytes "(face 0 0)"
    ∷ bytes "(v (p 00000000 00000000 00000000) (n 00000000 00000000 3F800000))"
    ∷ bytes "(v (p 00000000 00000000 41200000) (n 00000000 00000000 3F800000))"
    ∷ bytes "(v (p 41200000 00000000 00000000) (n 00000000 00000000 00000000))"
    ∷ bytes "(t 0 1 2)"
    ∷ bytes "(face 0 1)"
    ∷ bytes "(v (p 00000000 00000000 3F984FA4) (n 00000000 00000000 3F800000))"
    ∷ bytes "(v (p 00000000 00000000 00000000) (n 0DA24260 006CE3EE 00000000))"
    ∷ bytes "(v (p C1200000 00000000 40A00000) (n 00000000 00000000 3F800000))"
    ∷ bytes "(v (p 3E800000 00000000 411A7C46) (n 00000000 00000000 3F800000))"
    ∷ bytes "(v (p 00000000 00000000 3F984FA4) (n 00000000 00000000 3F800000))"
    ∷ bytes "(v (p C1200000 00000000 40A00000) (n 0DA24260 006CE3EE 00000000))"
    ∷ bytes "(v (p 00000000 00000000 41200000) (n 00000000 00000000 3F800000))"
    ∷ bytes "(v (p 3E800000 00000000 411A7C46) (n 3F800000 00000000 00000000))"
    ∷ bytes "(v (p C1200000 00000000 40A00000) (n 00000000 00000000 BF800000))"
    ∷ bytes "(t 0 1 2)"
    ∷ bytes "(t 3 4 5)"
    ∷ bytes "(t 6 7 8)"
    ∷ [])

-- what is printed
pub answer : List ℕ
answer =
    lines (bytes "(mesh 22 42)"
    ∷ bytes "(v (p 00000000 00000000 00000000) (n 00000000 00000000 3F800000))"
    ∷ bytes "(v (p 00000000 00000000 41200000) (n 00000000 00000000 3F800000))"
    ∷ bytes "(v (p 41200000 00000000 00000000) (n 00000000 00000000 00000000))"
    ∷ bytes "(v (p 00000000 00000000 3F984FA4) (n 00000000 00000000 3F800000))"
    ∷ bytes "(v (p C1200000 00000000 40A00000) (n 00000000 00000000 3F800000))"
    ∷ bytes "(v (p 3E800000 00000000 411A7C46) (n 00000000 00000000 3F800000))"
    ∷ bytes "(v (p 00000000 00000000 00000000) (n 00000000 00000000 3F800000))"
    ∷ bytes "(v (p 00000000 00000000 3F984FA4) (n 00000000 00000000 3F800000))"
    ∷ bytes "(v (p 00000000 00000000 00000000) (n 0DA24260 006CE3EE 00000000))"
    ∷ bytes "(v (p C1200000 00000000 40A00000) (n 00000000 00000000 3F800000))"
    ∷ bytes "(v (p 3E800000 00000000 411A7C46) (n 00000000 00000000 3F800000))"
    ∷ bytes "(v (p 00000000 00000000 3F984FA4) (n 00000000 00000000 3F800000))"
    ∷ bytes "(v (p C1200000 00000000 40A00000) (n 0DA24260 006CE3EE 00000000))"
    ∷ bytes "(v (p 00000000 00000000 41200000) (n 00000000 00000000 3F800000))"
    ∷ bytes "(v (p 3E800000 00000000 411A7C46) (n 3F800000 00000000 00000000))"
    ∷ bytes "(v (p C1200000 00000000 40A00000) (n 00000000 00000000 BF800000))"
    ∷ bytes "(v (p 00000000 00000000 3F984FA4) (n 0FCAEBF9 02882DB1 3F800000))"
    ∷ bytes "(v (p 00000000 00000000 41200000) (n 00000000 00000000 3F800000))"
    ∷ bytes "(v (p 3E800000 00000000 411A7C46) (n 00000000 00000000 3F800000))"
    ∷ bytes "(v (p C1200000 00000000 40A00000) (n 00000000 00000000 3F800000))"
    ∷ bytes "(v (p 00000000 00000000 3F984FA4) (n 3F656A40 00000000 BEE332B6))"
    ∷ bytes "(v (p 00000000 00000000 00000000) (n 3F5B8BB9 00000000 BF03AA36))"
    ∷ bytes "(part 0 0 42)"
    ∷ bytes "(t 0 3 4)"
    ∷ bytes "(t 0 4 1)"
    ∷ bytes "(t 0 1 5)"
    ∷ bytes "(t 0 5 6)"
    ∷ bytes "(t 0 6 2)"
    ∷ bytes "(t 7 8 16)"
    ∷ bytes "(t 7 16 9)"
    ∷ bytes "(t 7 9 17)"
    ∷ bytes "(t 7 17 18)"
    ∷ bytes "(t 10 19 11)"
    ∷ bytes "(t 10 11 12)"
    ∷ bytes "(t 13 14 20)"
    ∷ bytes "(t 13 20 21)"
    ∷ bytes "(t 13 21 15)"
    ∷ bytes "(range 0 0 0 15)"
    ∷ bytes "(range 1 0 15 42)"
    ∷ bytes "(turned 0)"
    ∷ bytes "(against 0)"
    ∷ bytes "(split 10)"
    ∷ bytes "(ok 2)"
    ∷ bytes "(edges 11)"
    ∷ bytes "(open 0)"
    ∷ bytes "(over 9)"
    ∷ bytes "(closed 0)"
    ∷ [])

-- The definitions yield it.
pub finished : bench text ≡ answer
unfolding evaluation text answer
finished = refl
