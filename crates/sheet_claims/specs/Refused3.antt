-- The sheet refused-3, and what the Rust prints for it. Made by reference/evaluate. Assumes nothing.
use Rattle.std.specs.Prelude.{List, [], ◌∷◌, ◌≡◌, refl, ℕ}
use Rattle.sheet_digits.specs.Bytes.{bytes, lines}
use Rattle.sheet_meaning.specs.Bench.{bench}
use Rattle.sheet_meaning.specs.Evaluation.{evaluation}

-- the sheet
pub text : List ℕ
text =
    lines (bytes "(box 4041800000000000 C036000000000000 4044800000000000 4042000000000000 4092F20000000000 4045000000000000)"
    ∷ bytes "(sag 3F847AE147AE147B)"
    ∷ bytes "(default -)"
    ∷ bytes "(face 0 0)"
    ∷ bytes "(v (p 420C0000 C1B00000 42240000) (n 00000000 00000000 BF800000))"
    ∷ bytes "(v (p 420C0000 44979000 42240000) (n 00000000 00000000 BF800000))"
    ∷ bytes "(v (p 42100000 44979000 42240000) (n 00000000 00000000 BF800000))"
    ∷ bytes "(v (p 42100000 C1B00000 42240000) (n 00000000 00000000 BF800000))"
    ∷ bytes "(v (p 420C0000 C1B00000 42280000) (n 00000000 00000000 BF800000))"
    ∷ bytes "(v (p 42100000 C1B00000 42280000) (n 00000000 00000000 BF800000))"
    ∷ bytes "(v (p 42100000 44979000 42280000) (n 00000000 00000000 BF800000))"
    ∷ bytes "(v (p 420C0000 44979000 42280000) (n 00000000 00000000 BF800000))"
    ∷ bytes "(t 0 1 2)"
    ∷ bytes "(t 0 2 3)"
    ∷ bytes "(t 4 5 6)"
    ∷ bytes "(t 4 6 7)"
    ∷ bytes "(t 0 3 5)"
    ∷ bytes "(t 0 5 4)"
    ∷ bytes "(face 0 1)"
    ∷ bytes "(v (p 420C0000 44979000 42240000) (n 00000000 3F800000 00000000))"
    ∷ bytes "(v (p 420C0000 44979000 42280000) (n 00000000 3F800000 00000000))"
    ∷ bytes "(v (p 42100000 44979000 42280000) (n 00000000 3F800000 00000000))"
    ∷ bytes "(v (p 42100000 44979000 42240000) (n 00000000 3F800000 00000000))"
    ∷ bytes "(v (p 420C0000 C1B00000 42240000) (n 00000000 3F800000 00000000))"
    ∷ bytes "(v (p 420C0000 C1B00000 42280000) (n 00000000 3F800000 00000000))"
    ∷ bytes "(v (p 42100000 C1B00000 42240000) (n 00000000 3F800000 00000000))"
    ∷ bytes "(v (p 42100000 C1B00000 42280000) (n 00000000 3F800000 00000000))"
    ∷ bytes "(t 0 1 2)"
    ∷ bytes "(t 0 2 3)"
    ∷ bytes "(t 4 5 1)"
    ∷ bytes "(t 4 1 0)"
    ∷ bytes "(t 6 3 2)"
    ∷ bytes "(t 6 2 7)"
    ∷ bytes "(fail 0 0 1000)"
    ∷ [])

-- what is printed
pub answer : List ℕ
answer =
    lines (bytes "(refused 12)"
    ∷ [])

-- The definitions yield it.
pub finished : bench text ≡ answer
unfolding evaluation text answer
finished = refl
