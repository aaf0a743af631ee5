-- `put_vertex` meets its contract. Assumes nothing.
use mathlib.Core.List.{List, [], ◌∷◌}
use mathlib.Core.Path.{◌≡◌, refl, subst}
use Prim.Native.Nat.{ℕ}
use lib.ListN.{get_or}
use lib.Ieee.{nan}
use Rattle.float_steps.specs.Floats.{bits32}
use Rattle.sheet_digits.specs.Bytes.{bytes}
use Rattle.sheet_digit_writing.specs.Writing.{Wrote}
use Rattle.sheet_lines.specs.Forms.{line, vertex_form}
use Rattle.sheet_lines.specs.Pattern.{piece, split}
use Rattle.sheet_answer_rows.specs.FormLaws.{as_form}
use Rattle.sheet_answer_rows.specs.Rows.{corner_at}
use borrow.Author.Rules.{rules}
use Rattle.sheet_answer_rows.proofs.put_vertex.Goals as goal

pub returns : goal.returns
unfolding piece split
returns c =
    let p = c.args.position.now in
    let n = c.args.normal.now in
    let r = c.map.result in
    let s = c.map-2.result in
    let x : get_or r 0 0 ≡ bits32 (get_or p 0 nan) = search rules in
    let y : get_or r 1 0 ≡ bits32 (get_or p 1 nan) = search rules in
    let z : get_or r 2 0 ≡ bits32 (get_or p 2 nan) = search rules in
    let u : get_or s 0 0 ≡ bits32 (get_or n 0 nan) = search rules in
    let v : get_or s 1 0 ≡ bits32 (get_or n 1 nan) = search rules in
    let w : get_or s 2 0 ≡ bits32 (get_or n 2 nan) = search rules in
    let all : get_or r 0 0 ∷ get_or r 1 0 ∷ get_or r 2 0 ∷ get_or s 0 0 ∷ get_or s 1 0 ∷ get_or s 2 0 ∷ [] ≡ corner_at p n 0 = cc in
    subst (λ (xs : List ℕ). Wrote c.args.out.now c.args.at (line vertex_form xs) c.put_line.new.out c.put_line.result) all (as_form vertex_form (bytes "(v (p***) (n***))") refl _ c.put_line.ensures)
