-- The sheet t-junction-3, and what the Rust prints for it. Made by reference/evaluate. Assumes nothing.
use Rattle.std.specs.Prelude.{List, [], ◌∷◌, ◌≡◌, refl, ℕ}
use Rattle.sheet_digits.specs.Bytes.{bytes, lines}
use Rattle.sheet_meaning.specs.Bench.{bench}
use Rattle.sheet_meaning.specs.Evaluation.{evaluation}

-- the sheet
pub text : List ℕ
text =
    lines (bytes "(box 0000000000000000 C024000000000000 0000000000000000 4024000000000000 4024000000000000 3FE0000000000000)"
    ∷ bytes "(sag 3FF0000000000000)"
    ∷ bytes "(default -)"
    ∷ bytes "(face 0 0)"
    ∷ bytes "(v (p 00000000 00000000 00000000) (n 00000000 00000000 3F800000))"
    ∷ bytes "(v (p 41200000 00000000 00000000) (n 00000000 00000000 3F800000))"
    ∷ bytes "(v (p 40A00000 41200000 00000000) (n 00000000 00000000 3F800000))"
    ∷ bytes "(t 0 1 2)"
    ∷ bytes "(face 0 1)"
    ∷ bytes "(v (p 40000000 00000000 00000000) (n 00000000 00000000 3F800000))"
    ∷ bytes "(v (p 00000000 00000000 00000000) (n 00000000 00000000 3F800000))"
    ∷ bytes "(v (p 40A00000 C1200000 00000000) (n 00000000 00000000 3F800000))"
    ∷ bytes "(v (p 4078832C 3F8020C5 00000000) (n 00000000 00000000 3F800000))"
    ∷ bytes "(v (p 40000000 00000000 00000000) (n 00000000 00000000 3F800000))"
    ∷ bytes "(v (p 40A00000 C1200000 00000000) (n 00000000 00000000 3F800000))"
    ∷ bytes "(v (p 40A5F407 3F800000 3F000000) (n BEB750D3 BD14E79A 3F6ED903))"
    ∷ bytes "(v (p 4078832C 3F8020C5 00000000) (n 0DA24260 006CE3EE 00000000))"
    ∷ bytes "(v (p 40A00000 C1200000 00000000) (n BEB750D3 BD14E79A 3F6ED903))"
    ∷ bytes "(v (p 41100000 BF800000 00000000) (n 3DD84807 BD404007 3F7E48E4))"
    ∷ bytes "(v (p 40A5F407 3F800000 3F000000) (n 3F800000 00000000 00000000))"
    ∷ bytes "(v (p 40A00000 C1200000 00000000) (n 3DD84807 BD404007 3F7E48E4))"
    ∷ bytes "(v (p 41200000 00000000 00000000) (n 0DA24260 006CE3EE 00000000))"
    ∷ bytes "(v (p 41100000 BF800000 00000000) (n 00000000 00000000 3F800000))"
    ∷ bytes "(v (p 40A00000 C1200000 00000000) (n 3F800000 00000000 00000000))"
    ∷ bytes "(t 0 1 2)"
    ∷ bytes "(t 3 4 5)"
    ∷ bytes "(t 6 7 8)"
    ∷ bytes "(t 9 10 11)"
    ∷ bytes "(t 12 13 14)"
    ∷ [])

-- what is printed
pub answer : List ℕ
answer =
    lines (bytes "(mesh 21 27)"
    ∷ bytes "(v (p 00000000 00000000 00000000) (n 00000000 00000000 3F800000))"
    ∷ bytes "(v (p 41200000 00000000 00000000) (n 00000000 00000000 3F800000))"
    ∷ bytes "(v (p 40A00000 41200000 00000000) (n 00000000 00000000 3F800000))"
    ∷ bytes "(v (p 40000000 00000000 00000000) (n 00000000 00000000 3F800000))"
    ∷ bytes "(v (p 41100000 BF800000 00000000) (n 00000000 00000000 3F800000))"
    ∷ bytes "(v (p 40000000 00000000 00000000) (n 00000000 00000000 3F800000))"
    ∷ bytes "(v (p 00000000 00000000 00000000) (n 00000000 00000000 3F800000))"
    ∷ bytes "(v (p 40A00000 C1200000 00000000) (n 00000000 00000000 3F800000))"
    ∷ bytes "(v (p 4078832C 3F8020C5 00000000) (n 00000000 00000000 3F800000))"
    ∷ bytes "(v (p 40000000 00000000 00000000) (n 00000000 00000000 3F800000))"
    ∷ bytes "(v (p 40A00000 C1200000 00000000) (n 00000000 00000000 3F800000))"
    ∷ bytes "(v (p 40A5F407 3F800000 3F000000) (n BEB750D3 BD14E79A 3F6ED903))"
    ∷ bytes "(v (p 4078832C 3F8020C5 00000000) (n 0DA24260 006CE3EE 00000000))"
    ∷ bytes "(v (p 40A00000 C1200000 00000000) (n BEB750D3 BD14E79A 3F6ED903))"
    ∷ bytes "(v (p 41100000 BF800000 00000000) (n 3DD84807 BD404007 3F7E48E4))"
    ∷ bytes "(v (p 40A5F407 3F800000 3F000000) (n 3F800000 00000000 00000000))"
    ∷ bytes "(v (p 40A00000 C1200000 00000000) (n 3DD84807 BD404007 3F7E48E4))"
    ∷ bytes "(v (p 41200000 00000000 00000000) (n 0DA24260 006CE3EE 00000000))"
    ∷ bytes "(v (p 41100000 BF800000 00000000) (n 00000000 00000000 3F800000))"
    ∷ bytes "(v (p 40A00000 C1200000 00000000) (n 3F800000 00000000 00000000))"
    ∷ bytes "(v (p 41100000 BF800000 00000000) (n 3F800000 01C7A1DF 00000000))"
    ∷ bytes "(part 0 0 27)"
    ∷ bytes "(t 0 3 4)"
    ∷ bytes "(t 0 4 1)"
    ∷ bytes "(t 0 1 2)"
    ∷ bytes "(t 5 6 7)"
    ∷ bytes "(t 8 9 10)"
    ∷ bytes "(t 11 12 13)"
    ∷ bytes "(t 14 15 16)"
    ∷ bytes "(t 17 18 19)"
    ∷ bytes "(t 17 19 20)"
    ∷ bytes "(range 0 0 0 9)"
    ∷ bytes "(range 1 0 9 27)"
    ∷ bytes "(turned 0)"
    ∷ bytes "(against 0)"
    ∷ bytes "(split 3)"
    ∷ bytes "(ok 2)"
    ∷ bytes "(edges 16)"
    ∷ bytes "(open 7)"
    ∷ bytes "(over 2)"
    ∷ bytes "(closed 0)"
    ∷ [])

-- The definitions yield it.
pub finished : bench text ≡ answer
unfolding evaluation text answer
finished = refl
