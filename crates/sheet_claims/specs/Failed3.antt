-- The sheet failed-3, and what the Rust prints for it. Made by reference/evaluate. Assumes nothing.
use Rattle.std.specs.Prelude.{List, [], ◌∷◌, ◌≡◌, refl, ℕ}
use Rattle.sheet_digits.specs.Bytes.{bytes, lines}
use Rattle.sheet_meaning.specs.Bench.{bench}
use Rattle.sheet_meaning.specs.Evaluation.{evaluation}

-- the sheet
pub text : List ℕ
text =
    lines (bytes "(box C041925D20000000 402B5CF1E0000000 C0465A7960000000 C040525D20000000 4037AE7900000000 C0415A7960000000)"
    ∷ bytes "(sag 3FD0000000000000)"
    ∷ bytes "(default -)"
    ∷ bytes "(face 0 0)"
    ∷ bytes "(v (p C20C92E9 415AE78F C232D3CB) (n 80000000 80000000 3F800000))"
    ∷ bytes "(v (p C20C92E9 41BD73C8 C232D3CB) (n 80000000 80000000 3F800000))"
    ∷ bytes "(v (p C20292E9 41BD73C8 C232D3CB) (n 80000000 80000000 3F800000))"
    ∷ bytes "(v (p C20292E9 415AE78F C232D3CB) (n 80000000 80000000 3F800000))"
    ∷ bytes "(v (p C20C92E9 415AE78F C20AD3CB) (n 80000000 80000000 3F800000))"
    ∷ bytes "(v (p C20292E9 415AE78F C20AD3CB) (n 80000000 80000000 3F800000))"
    ∷ bytes "(v (p C20292E9 41BD73C8 C20AD3CB) (n 80000000 80000000 3F800000))"
    ∷ bytes "(v (p C20C92E9 41BD73C8 C20AD3CB) (n 80000000 80000000 3F800000))"
    ∷ bytes "(t 0 2 1)"
    ∷ bytes "(t 0 3 2)"
    ∷ bytes "(t 4 6 5)"
    ∷ bytes "(t 4 7 6)"
    ∷ bytes "(t 0 5 3)"
    ∷ bytes "(t 0 4 5)"
    ∷ bytes "(t 1 6 7)"
    ∷ bytes "(t 1 2 6)"
    ∷ bytes "(t 0 7 4)"
    ∷ bytes "(t 0 1 7)"
    ∷ bytes "(t 3 6 2)"
    ∷ bytes "(t 3 5 6)"
    ∷ bytes "(fail 2 45 2 65535)"
    ∷ bytes "(face 1 44 3)"
    ∷ bytes "(v (p 4E6E6B28 C0400000 00000000) (n 00000000 00000000 3F800000))"
    ∷ bytes "(v (p 4E6E6B28 C0400000 00000000) (n 00000000 00000000 3F800000))"
    ∷ bytes "(face 0 41 0)"
    ∷ bytes "(fail 0 40 7)"
    ∷ bytes "(face 1 42)"
    ∷ bytes "(v (p 4E6E6B28 C0400000 00000000) (n 00000000 00000000 3F800000))"
    ∷ bytes "(v (p 4E6E6B28 C0400000 00000000) (n 00000000 00000000 3F800000))"
    ∷ bytes "(face 1 43)"
    ∷ bytes "(v (p 4E6E6B28 C0400000 00000000) (n 00000000 00000000 3F800000))"
    ∷ bytes "(v (p 4E6E6B28 C0400000 00000000) (n 00000000 00000000 3F800000))"
    ∷ [])

-- what is printed
pub answer : List ℕ
answer =
    lines (bytes "(mesh 8 36)"
    ∷ bytes "(v (p C20C92E9 415AE78F C232D3CB) (n 00000000 00000000 BF800000))"
    ∷ bytes "(v (p C20C92E9 41BD73C8 C232D3CB) (n 00000000 00000000 BF800000))"
    ∷ bytes "(v (p C20292E9 41BD73C8 C232D3CB) (n 00000000 00000000 BF800000))"
    ∷ bytes "(v (p C20292E9 415AE78F C232D3CB) (n 00000000 00000000 BF800000))"
    ∷ bytes "(v (p C20C92E9 415AE78F C20AD3CB) (n 00000000 00000000 BF800000))"
    ∷ bytes "(v (p C20292E9 415AE78F C20AD3CB) (n 00000000 00000000 BF800000))"
    ∷ bytes "(v (p C20292E9 41BD73C8 C20AD3CB) (n 00000000 00000000 BF800000))"
    ∷ bytes "(v (p C20C92E9 41BD73C8 C20AD3CB) (n 00000000 00000000 BF800000))"
    ∷ bytes "(part 0 0 36)"
    ∷ bytes "(t 0 1 2)"
    ∷ bytes "(t 0 2 3)"
    ∷ bytes "(t 4 5 6)"
    ∷ bytes "(t 4 6 7)"
    ∷ bytes "(t 0 3 5)"
    ∷ bytes "(t 0 5 4)"
    ∷ bytes "(t 1 7 6)"
    ∷ bytes "(t 1 6 2)"
    ∷ bytes "(t 0 4 7)"
    ∷ bytes "(t 0 7 1)"
    ∷ bytes "(t 3 2 6)"
    ∷ bytes "(t 3 6 5)"
    ∷ bytes "(range 0 0 0 36)"
    ∷ bytes "(failed 45 65535 (upstream 2))"
    ∷ bytes "(failed 44 3 (empty))"
    ∷ bytes "(failed 41 0 (empty))"
    ∷ bytes "(failed 40 0 (upstream 7))"
    ∷ bytes "(failed 42 0 (empty))"
    ∷ bytes "(failed 43 0 (empty))"
    ∷ bytes "(turned 1)"
    ∷ bytes "(against 0)"
    ∷ bytes "(split 0)"
    ∷ bytes "(ok 1)"
    ∷ bytes "(edges 18)"
    ∷ bytes "(open 0)"
    ∷ bytes "(over 0)"
    ∷ bytes "(closed 1)"
    ∷ [])

-- The definitions yield it.
pub finished : bench text ≡ answer
unfolding evaluation text answer
finished = refl
