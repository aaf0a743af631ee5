-- One line of a plan: what follows it is read on. Assumes nothing.
use Rattle.std.specs.Prelude.{Bool, true, false, List, [], ◌∷◌, ◌++◌, ◌≡◌, refl, ℕ, zero, suc, ◌<◌, ltb, pos, length}
use Rattle.std.proofs.Common.{append_assoc, sym, ◌∙◌, ap}
use Rattle.std.proofs.Math.Option.{Option, none, some}
use Rattle.plan_definition.specs.Places.{Place, total, in_range}
use Rattle.plan_definition.specs.Grammar.{Entry, entry, most_depth}
use Rattle.plan_definition.specs.Lines.{Line, Open, Bin, Close, line_of, lines_of, line_text}
use Rattle.plan_definition.specs.Reading.{refusal_of, entries_of, malformed, too_deep, out_of_range, too_many, outer}

module _ (room : ℕ) (path : List Place) (count : ℕ) (l : List ℕ) (ls : List (List ℕ)) where
  pub no_line : line_of l ≡ none → refusal_of room path count (l ∷ ls) ≡ malformed
  unfolding refusal_of
  no_line e = rw (e, refusal_of)

  pub group_opened : (o : Place) → line_of l ≡ some (Open o) → ltb (length path) most_depth ≡ true → refusal_of room path count (l ∷ ls) ≡ refusal_of room (o ∷ path) count ls
  unfolding refusal_of
  group_opened o e d = rw (e, d, refusal_of)

  pub group_too_deep : (o : Place) → line_of l ≡ some (Open o) → ltb (length path) most_depth ≡ false → refusal_of room path count (l ∷ ls) ≡ too_deep
  unfolding refusal_of
  group_too_deep o e d = rw (e, d, refusal_of)

  pub bin_placed : (n : ℕ) (o : Place) → line_of l ≡ some (Bin n o) → in_range (total (o ∷ path)) ≡ true → ltb count room ≡ true → refusal_of room path count (l ∷ ls) ≡ refusal_of room path (suc count) ls
  unfolding refusal_of
  bin_placed n o e r c = rw (e, r, c, refusal_of)

  pub bin_out_of_range : (n : ℕ) (o : Place) → line_of l ≡ some (Bin n o) → in_range (total (o ∷ path)) ≡ false → refusal_of room path count (l ∷ ls) ≡ out_of_range
  unfolding refusal_of
  bin_out_of_range n o e r = rw (e, r, refusal_of)

  pub bin_too_many : (n : ℕ) (o : Place) → line_of l ≡ some (Bin n o) → in_range (total (o ∷ path)) ≡ true → ltb count room ≡ false → refusal_of room path count (l ∷ ls) ≡ too_many
  unfolding refusal_of
  bin_too_many n o e r c = rw (e, r, c, refusal_of)

  pub group_closed : line_of l ≡ some Close → ltb 0 (length path) ≡ true → refusal_of room path count (l ∷ ls) ≡ refusal_of room (outer path) count ls
  unfolding refusal_of
  group_closed e d = rw (e, d, refusal_of)

  pub none_to_close : line_of l ≡ some Close → ltb 0 (length path) ≡ false → refusal_of room path count (l ∷ ls) ≡ malformed
  unfolding refusal_of
  none_to_close e d = rw (e, d, refusal_of)

module _ (path : List Place) (l : List ℕ) (ls : List (List ℕ)) where
  pub opened_entries : (o : Place) → line_of l ≡ some (Open o) → entries_of path (l ∷ ls) ≡ entries_of (o ∷ path) ls
  unfolding entries_of
  opened_entries o e = rw (e, entries_of)

  pub bin_entries : (n : ℕ) (o : Place) → line_of l ≡ some (Bin n o) → entries_of path (l ∷ ls) ≡ entry (pos n) (total (o ∷ path)) ∷ entries_of path ls
  unfolding entries_of
  bin_entries n o e = rw (e, entries_of)

  pub closed_entries : line_of l ≡ some Close → entries_of path (l ∷ ls) ≡ entries_of (outer path) ls
  unfolding entries_of
  closed_entries e = rw (e, entries_of)
