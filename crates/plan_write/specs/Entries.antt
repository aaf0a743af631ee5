-- An entry of a lent list by its words. Assumes nothing.
use Rattle.std.specs.Prelude.{Bool, true, false, ◌&&◌, not, cond, List, [], ◌∷◌, ◌≡◌, ℕ, ◌+◌, ◌-◌, ◌*◌, ◌≤◌, leb, ltb, eqb, ℤ, pos, ◌+ℤ◌, length, get_or}
use Rattle.signed_numbers.specs.Range.{farthest, within}
use Rattle.body_refusals.specs.TableChecks.{most_bin}
use Rattle.sheet_digits.specs.Bytes.{bytes}
use Rattle.sheet_digits.specs.OffsetLaws.{offset_words}
use Rattle.sheet_lines.specs.Forms.{line}
use Rattle.sheet_lines.specs.Pattern.{pieces}
use Rattle.plan_definition.specs.Grammar.{Entry, entry}
use Rattle.plan_definition.specs.Reading.{entry_width, malformed, out_of_range, too_many, most_entries}
use Rattle.plan_definition.specs.declared.PlaceWords.{PlaceWords}
use Rattle.plan_write.specs.declared.entries.EntryWords.{EntryWords}

-- r is the word of a number in range, or one that no offset has
pub record WordOf (n : ℤ) (r : ℕ) : Type 0 where
  pub inside : within n ≡ true → pos r ≡ n +ℤ pos farthest
  pub outside : within n ≡ false → r ≡ offset_words

-- entry k of a list
abbrev pub entry_at : List ℤ → ℕ → Entry
entry_at l k =
    entry (get_or l (entry_width * k) (pos 0))
    (record { x = get_or l (entry_width * k + 1) (pos 0); y = get_or l (entry_width * k + 2) (pos 0); z = get_or l (entry_width * k + 3) (pos 0) })

-- its words
pub record EntryOf (e : Entry) (w : EntryWords) : Type 0 where
  pub bin : WordOf e.bin w.bin
  pub x : WordOf e.place.x w.place.x
  pub y : WordOf e.place.y w.place.y
  pub z : WordOf e.place.z w.place.z

-- whether a word is that of a bin in range
abbrev pub bin_word : ℕ → Bool
bin_word n = leb farthest n && leb n (farthest + most_bin)

-- whether the words of a place are those of one in range
abbrev pub place_words : PlaceWords → Bool
place_words w = not (eqb w.x offset_words) && (not (eqb w.y offset_words) && not (eqb w.z offset_words))

-- what entry k is refused for, by its words
abbrev pub words_refusal : EntryWords → ℕ → ℕ
words_refusal w k = cond (bin_word w.bin) (cond (place_words w.place) (cond (ltb k most_entries) 0 too_many) out_of_range) malformed

-- the line of an entry, by its words
unfoldable pub words_line : EntryWords → List ℕ
words_line w = line (pieces (bytes "(bin#%%%)")) ((w.bin - farthest) ∷ w.place.x ∷ w.place.y ∷ w.place.z ∷ [])

-- r is how many bytes that line has, few enough
pub record LineLength (w : EntryWords) (r : ℕ) : Type 0 where
  pub is : r ≡ length (words_line w)
  pub few : r ≤ 96
