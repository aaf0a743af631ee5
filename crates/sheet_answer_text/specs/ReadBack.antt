-- Every line that is printed reads back: its numbers below 2^32 and its bits are themselves. Assumes nothing.
use Rattle.std.specs.Prelude.{List, ◌≡◌, ℕ, T}
use Rattle.std.proofs.Math.Option.{some}
use Rattle.sheet_digits.specs.Digits.{digit_of}
use Rattle.sheet_lines.specs.Forms.{Piece, numbers, print, read, triangle_form, vertex_form}
use Rattle.sheet_lines.specs.ReadBack.{fits, read_print, readable}
use Rattle.sheet_answer_rows.specs.Rows.{empty_form, escape_form, range_form, upstream_form}
use Rattle.sheet_answer_text.specs.Answer.{against_form, closed_form, edges_form, mesh_form, ok_form, open_form, over_form, part_form, refused_form, split_form, turned_form}

-- the forms of the lines that are printed
pub data Printed : List Piece → Type 0 where
  mesh : Printed mesh_form
  vertex : Printed vertex_form
  part : Printed part_form
  triangle : Printed triangle_form
  range : Printed range_form
  empty : Printed empty_form
  upstream : Printed upstream_form
  escape : Printed escape_form
  turned : Printed turned_form
  against : Printed against_form
  split : Printed split_form
  ok : Printed ok_form
  edges : Printed edges_form
  open_edges : Printed open_form
  over_edges : Printed over_form
  closed : Printed closed_form
  refused : Printed refused_form

printed_readable : (form : List Piece) → Printed form → T (readable form)
unfolding numbers digit_of
printed_readable form mesh = tt
printed_readable form vertex = tt
printed_readable form part = tt
printed_readable form triangle = tt
printed_readable form range = tt
printed_readable form empty = tt
printed_readable form upstream = tt
printed_readable form escape = tt
printed_readable form turned = tt
printed_readable form against = tt
printed_readable form split = tt
printed_readable form ok = tt
printed_readable form edges = tt
printed_readable form open_edges = tt
printed_readable form over_edges = tt
printed_readable form closed = tt
printed_readable form refused = tt

-- What is printed reads back as itself.
pub printed_back : (form : List Piece) (ns : List ℕ) → Printed form → T (fits form ns) → read form (print form ns) ≡ some ns
printed_back form ns p f = read_print form ns (printed_readable form p) f
