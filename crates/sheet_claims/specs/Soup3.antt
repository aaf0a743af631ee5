-- The sheet soup-3, and what the Rust prints for it. Made by reference/evaluate. Assumes nothing.
use Rattle.std.specs.Prelude.{List, [], ◌∷◌, ◌≡◌, refl, ℕ}
use Rattle.sheet_digits.specs.Bytes.{bytes, lines}
use Rattle.sheet_meaning.specs.Bench.{bench}
use Rattle.sheet_meaning.specs.Evaluation.{evaluation}

-- the sheet
pub text : List ℕ
text =
    lines (bytes "(box 0000000000000000 0000000000000000 0000000000000000 403E000000000000 403E000000000000 403E000000000000)"
    ∷ bytes "(sag 3FF0000000000000)"
    ∷ bytes "(default -)"
    ∷ bytes "(material 2 5)"
    ∷ bytes "(material 3 0)"
    ∷ bytes "(face 1 6)"
    ∷ bytes "(v (p 41F00000 00000000 00000000) (n 3E2AA77A BDBB1D74 3F2ED7CB))"
    ∷ bytes "(v (p 41F00000 41A00000 41F00000) (n BE5D67C4 BF2726C6 BF0990B0))"
    ∷ bytes "(v (p 00000000 41F00000 41F00000) (n 3EE9CE9C 3E2EB999 3EFD908B))"
    ∷ bytes "(v (p 41F00000 41F00000 00000000) (n BF7A4088 3F6D16DE 3EBA4060))"
    ∷ bytes "(v (p 41200000 00000000 41A00000) (n BF382E55 3E455830 BF54A088))"
    ∷ bytes "(t 2 3 0)"
    ∷ bytes "(face 1 7)"
    ∷ bytes "(v (p 41F00000 00000000 00000000) (n 3F15C9AC BF751D97 3F75E3B7))"
    ∷ bytes "(v (p 41F00000 41F00000 00000000) (n 3F3F69CF BD1883D8 3F66E0C3))"
    ∷ bytes "(v (p 41A00000 41F00000 41A00000) (n BEE47BCD 3F152B05 BF5DF6C2))"
    ∷ bytes "(v (p 41F00000 00000000 41F00000) (n BED7BE51 3EC5B1FF BE30B3D3))"
    ∷ bytes "(v (p 00000000 41A00000 41F00000) (n BF0D93A1 BF16C917 BDFA233B))"
    ∷ bytes "(v (p 00000000 00000000 00000000) (n 3E8B398E 3D94F48C 3F1B9EE3))"
    ∷ bytes "(t 2 5 0)"
    ∷ bytes "(t 0 2 2)"
    ∷ [])

-- what is printed
pub answer : List ℕ
answer =
    lines (bytes "(mesh 11 9)"
    ∷ bytes "(v (p 41F00000 00000000 00000000) (n BE2AA77A 3DBB1D74 BF2ED7CB))"
    ∷ bytes "(v (p 41F00000 41A00000 41F00000) (n 3E5D67C4 3F2726C6 3F0990B0))"
    ∷ bytes "(v (p 00000000 41F00000 41F00000) (n BEE9CE9C BE2EB999 BEFD908B))"
    ∷ bytes "(v (p 41F00000 41F00000 00000000) (n 3F7A4088 BF6D16DE BEBA4060))"
    ∷ bytes "(v (p 41200000 00000000 41A00000) (n 3F382E55 BE455830 3F54A088))"
    ∷ bytes "(v (p 41F00000 00000000 00000000) (n 3F15C9AC BF751D97 3F75E3B7))"
    ∷ bytes "(v (p 41F00000 41F00000 00000000) (n 3F3F69CF BD1883D8 3F66E0C3))"
    ∷ bytes "(v (p 41A00000 41F00000 41A00000) (n BEE47BCD 3F152B05 BF5DF6C2))"
    ∷ bytes "(v (p 41F00000 00000000 41F00000) (n BED7BE51 3EC5B1FF BE30B3D3))"
    ∷ bytes "(v (p 00000000 41A00000 41F00000) (n BF0D93A1 BF16C917 BDFA233B))"
    ∷ bytes "(v (p 00000000 00000000 00000000) (n 3E8B398E 3D94F48C 3F1B9EE3))"
    ∷ bytes "(part 0 0 9)"
    ∷ bytes "(t 2 0 3)"
    ∷ bytes "(t 7 10 5)"
    ∷ bytes "(t 5 7 7)"
    ∷ bytes "(range 6 0 0 3)"
    ∷ bytes "(range 7 0 3 9)"
    ∷ bytes "(turned 1)"
    ∷ bytes "(against 0)"
    ∷ bytes "(split 0)"
    ∷ bytes "(ok 2)"
    ∷ bytes "(edges 6)"
    ∷ bytes "(open 5)"
    ∷ bytes "(over 1)"
    ∷ bytes "(closed 0)"
    ∷ [])

-- The definitions yield it.
pub finished : bench text ≡ answer
unfolding evaluation text answer
finished = refl
