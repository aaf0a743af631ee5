-- The sheet flat-3, and what the Rust prints for it. Made by reference/evaluate. Assumes nothing.
use Rattle.std.specs.Prelude.{List, [], ◌∷◌, ◌≡◌, refl, ℕ}
use Rattle.sheet_digits.specs.Bytes.{bytes, lines}
use Rattle.sheet_meaning.specs.Bench.{bench}
use Rattle.sheet_meaning.specs.Evaluation.{evaluation}

-- the sheet
pub text : List ℕ
text =
    lines (bytes "(box 4008000000000000 C01C000000000000 4026000000000000 4020000000000000 C01C000000000000 4028000000000000)"
    ∷ bytes "(sag 3F847AE147AE147B)"
    ∷ bytes "(default -)"
    ∷ bytes "(face 0 0)"
    ∷ bytes "(v (p 40400000 C0E00000 41300000) (n 80000000 80000000 BF800000))"
    ∷ bytes "(v (p 40800000 C0E00000 41300000) (n 80000000 80000000 BF800000))"
    ∷ bytes "(v (p 40800000 C0E00000 41400000) (n 80000000 80000000 BF800000))"
    ∷ bytes "(t 0 2 1)"
    ∷ bytes "(face 0 1)"
    ∷ bytes "(v (p 40800000 C0E00000 41300000) (n 80000000 80000000 BF800000))"
    ∷ bytes "(v (p 40A00000 C0E00000 41300000) (n 80000000 80000000 BF800000))"
    ∷ bytes "(v (p 40A00000 C0E00000 41400000) (n 80000000 80000000 BF800000))"
    ∷ bytes "(v (p 40800000 C0E00000 41300000) (n 80000000 80000000 BF800000))"
    ∷ bytes "(v (p 40A00000 C0E00000 41400000) (n 80000000 80000000 BF800000))"
    ∷ bytes "(v (p 40800000 C0E00000 41400000) (n 80000000 80000000 BF800000))"
    ∷ bytes "(t 0 2 1)"
    ∷ bytes "(t 3 5 4)"
    ∷ bytes "(face 0 2)"
    ∷ bytes "(v (p 40A00000 C0E00000 41300000) (n 80000000 80000000 BF800000))"
    ∷ bytes "(v (p 40C00000 C0E00000 41300000) (n 80000000 80000000 BF800000))"
    ∷ bytes "(v (p 40C00000 C0E00000 41400000) (n 80000000 80000000 BF800000))"
    ∷ bytes "(t 0 2 1)"
    ∷ bytes "(face 0 3)"
    ∷ bytes "(v (p 40C00000 C0E00000 41300000) (n 80000000 80000000 BF800000))"
    ∷ bytes "(v (p 40E00000 C0E00000 41300000) (n 80000000 80000000 BF800000))"
    ∷ bytes "(v (p 40E00000 C0E00000 41400000) (n 80000000 80000000 BF800000))"
    ∷ bytes "(t 0 2 1)"
    ∷ bytes "(face 0 4)"
    ∷ bytes "(v (p 40E00000 C0E00000 41300000) (n 80000000 80000000 BF800000))"
    ∷ bytes "(v (p 41000000 C0E00000 41300000) (n 80000000 80000000 BF800000))"
    ∷ bytes "(v (p 41000000 C0E00000 41400000) (n 80000000 80000000 BF800000))"
    ∷ bytes "(t 0 2 1)"
    ∷ [])

-- what is printed
pub answer : List ℕ
answer =
    lines (bytes "(mesh 18 18)"
    ∷ bytes "(v (p 40400000 C0E00000 41300000) (n 00000000 00000000 3F800000))"
    ∷ bytes "(v (p 40800000 C0E00000 41300000) (n 00000000 00000000 3F800000))"
    ∷ bytes "(v (p 40800000 C0E00000 41400000) (n 00000000 00000000 3F800000))"
    ∷ bytes "(v (p 40800000 C0E00000 41300000) (n 00000000 00000000 3F800000))"
    ∷ bytes "(v (p 40A00000 C0E00000 41300000) (n 00000000 00000000 3F800000))"
    ∷ bytes "(v (p 40A00000 C0E00000 41400000) (n 00000000 00000000 3F800000))"
    ∷ bytes "(v (p 40800000 C0E00000 41300000) (n 00000000 00000000 3F800000))"
    ∷ bytes "(v (p 40A00000 C0E00000 41400000) (n 00000000 00000000 3F800000))"
    ∷ bytes "(v (p 40800000 C0E00000 41400000) (n 00000000 00000000 3F800000))"
    ∷ bytes "(v (p 40A00000 C0E00000 41300000) (n 00000000 00000000 3F800000))"
    ∷ bytes "(v (p 40C00000 C0E00000 41300000) (n 00000000 00000000 3F800000))"
    ∷ bytes "(v (p 40C00000 C0E00000 41400000) (n 00000000 00000000 3F800000))"
    ∷ bytes "(v (p 40C00000 C0E00000 41300000) (n 00000000 00000000 3F800000))"
    ∷ bytes "(v (p 40E00000 C0E00000 41300000) (n 00000000 00000000 3F800000))"
    ∷ bytes "(v (p 40E00000 C0E00000 41400000) (n 00000000 00000000 3F800000))"
    ∷ bytes "(v (p 40E00000 C0E00000 41300000) (n 00000000 00000000 3F800000))"
    ∷ bytes "(v (p 41000000 C0E00000 41300000) (n 00000000 00000000 3F800000))"
    ∷ bytes "(v (p 41000000 C0E00000 41400000) (n 00000000 00000000 3F800000))"
    ∷ bytes "(part 0 0 18)"
    ∷ bytes "(t 0 1 2)"
    ∷ bytes "(t 3 4 5)"
    ∷ bytes "(t 6 7 8)"
    ∷ bytes "(t 9 10 11)"
    ∷ bytes "(t 12 13 14)"
    ∷ bytes "(t 15 16 17)"
    ∷ bytes "(range 0 0 0 3)"
    ∷ bytes "(range 1 0 3 9)"
    ∷ bytes "(range 2 0 9 12)"
    ∷ bytes "(range 3 0 12 15)"
    ∷ bytes "(range 4 0 15 18)"
    ∷ bytes "(turned 5)"
    ∷ bytes "(against 0)"
    ∷ bytes "(split 0)"
    ∷ bytes "(ok 5)"
    ∷ bytes "(edges 16)"
    ∷ bytes "(open 14)"
    ∷ bytes "(over 0)"
    ∷ bytes "(closed 0)"
    ∷ [])

-- The definitions yield it.
pub finished : bench text ≡ answer
unfolding evaluation text answer
finished = refl
