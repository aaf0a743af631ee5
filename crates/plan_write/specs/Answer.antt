-- What writing a listing answers and leaves. Assumes nothing.
use Rattle.std.specs.Prelude.{List, ◌≡◌, ℕ, ℤ, length, Result, Ok, Err}
use Rattle.lists.specs.Lists.{written}
use Rattle.plan_definition.specs.Writing.{entries_in, listing_refusal, listing_text, text_after}
use Rattle.plan_definition.specs.Answers.{listing_answer, listing_of}

-- no entry of a list offends, and its lines take n bytes
pub record Measured (list : List ℤ) (n : ℕ) : Type 0 where
  pub none_offends : listing_refusal 0 (entries_in list) ≡ 0
  pub long : n ≡ length (listing_text (entries_in list))

-- the entries of a list were checked: the first that offends is told, or how many bytes their lines take
abbrev pub CheckedListing : List ℤ → Result ℕ ℕ → Type 0
CheckedListing list (Ok n) = Measured list n
CheckedListing list (Err n) = n ≡ listing_refusal 0 (entries_in list)

-- the lines of a list were written to the front of a slice
pub record ListingPut (list : List ℤ) (E W : List ℕ) (r : ℕ) : Type 0 where
  pub is : W ≡ written (listing_text (entries_in list)) E
  pub long : r ≡ length (listing_text (entries_in list))

-- A listing was written into a slice that held E and holds W now: the answer and the slice are what the definition has.
pub record ListingWritten (list : List ℤ) (E W : List ℕ) (r : Result ℕ ℕ) : Type 0 where
  pub answer : r ≡ listing_answer (listing_of list E)
  pub text : W ≡ text_after (listing_of list E) E
