-- The definitions that the theorems of this name in proofs/ speak of. Assumes nothing.
use Rattle.std.specs.Prelude.{List, ◌≡◌, ℕ, ◌*◌, ℤ, length, take}
use Rattle.lists.specs.Lists.{written}
use Rattle.plan_definition.specs.Grammar.{Entry}
use Rattle.plan_definition.specs.Reading.{Listed, entry_width, list_of, list_after}
use Rattle.plan_definition.specs.Writing.{Written, listing_text, text_after}
use Rattle.plan_definition.specs.Answers.{reading_of, listing_of}

-- A text was read into a list, the entries that it left there were written to a slice, and the text that was left there was read into another list:
-- the first reading listed the entries es, these were written, and they were listed again.
pub record Again (text : List ℕ) (list : List ℤ) (out : List ℕ) (other : List ℤ) (es : List Entry) : Type 0 where
  -- the numbers that reading left are the entries'
  pub listed : take (entry_width * length es) (list_after (reading_of text list) list) ≡ list_of es
  -- writing them is accepted
  pub accepted : listing_of (list_of es) out ≡ Written (listing_text es)
  -- the bytes that it left are their text
  pub text_left : take (length (listing_text es)) (text_after (listing_of (list_of es) out) out) ≡ listing_text es
  -- reading these lists the same entries
  pub again : reading_of (listing_text es) other ≡ Listed es
  -- and leaves the same numbers
  pub same : take (entry_width * length es) (list_after (reading_of (listing_text es) other) other) ≡ list_of es
