-- Small plans, each of which tells a reading of document 02 from a near miss. Assumes nothing.
use Rattle.std.specs.Prelude.{List, [], ◌∷◌, ◌++◌, map, ◌≡◌, refl, ℕ, zero, suc, ℤ, pos, negsuc, replicate}
use Rattle.sheet_digits.specs.Bytes.{bytes, lines}
use Rattle.plan_definition.specs.Places.{Place}
use Rattle.plan_definition.specs.Grammar.{Plan, nothing, bin, group, Entry, entry, plan_text, placed}
use Rattle.plan_definition.specs.Lines.{lines_of}
use Rattle.plan_definition.specs.Reading.{Listed, plan_of, refusal_of, list_after}
use Rattle.plan_definition.specs.Reading as Reading
use Rattle.plan_definition.specs.Writing.{Written, entries_in, writing_of, text_after}
use Rattle.plan_definition.specs.Writing as Writing
use Rattle.plan_definition.specs.Evaluation.{evaluation}

-- a place of three numbers that aren't negative
at : ℕ → ℕ → ℕ → Place
at x y z = record { x = pos x; y = pos y; z = pos z }

-- the numbers of texts that are refused, 0 for one that isn't, by a list with room for two bins
refusals : List (List (List ℕ)) → List ℕ
refusals ts = map (λ t. refusal_of 2 [] 0 (lines_of (lines t))) ts

-- ---- what is accepted

-- two groups, one in the other, and a bin in each, before them and behind: the sum along the path of each
nested : Plan
nested = bin 1 (at 5 0 0) (group (at 100 0 0) (bin 2 (at 1 2 3) (group (at 0 10 0) (bin 3 (at 0 0 1) nothing) nothing)) (bin 1 (at 7 7 7) nothing))

nested_read : plan_of 4 (plan_text nested) ≡ Listed (entry (pos 1) (at 5 0 0) ∷ entry (pos 2) (at 101 2 3) ∷ entry (pos 3) (at 100 10 1) ∷ entry (pos 1) (at 7 7 7) ∷ [])
unfolding evaluation nested at
nested_read = refl

nested_text : plan_text nested
    ≡ lines (bytes "(bin 1 5 0 0)" ∷ bytes "(group 100 0 0" ∷ bytes "(bin 2 1 2 3)" ∷ bytes "(group 0 10 0" ∷ bytes "(bin 3 0 0 1)" ∷ bytes ")" ∷ bytes ")" ∷ bytes "(bin 1 7 7 7)" ∷ [])
unfolding evaluation nested at
nested_text = refl

-- negative offsets, and the farthest
farthest_read : plan_of 2 (lines (bytes "(bin 65535 -1099511627776 1099511627776 -1)" ∷ []))
    ≡ Listed (entry (pos 65535) (record { x = negsuc 1099511627775; y = pos 1099511627776; z = negsuc 0 }) ∷ [])
unfolding evaluation
farthest_read = refl

-- no line, an empty group, sixteen groups open at once, groups whose sum is out of range while the bin's place is not
accepted : refusals (
    []
    ∷ (bytes "(group 0 0 0" ∷ bytes ")" ∷ [])
    ∷ (replicate 16 (bytes "(group 1 1 1") ++ bytes "(bin 7 0 0 0)" ∷ replicate 16 (bytes ")"))
    ∷ (bytes "(group 1099511627776 0 0" ∷ bytes "(group 1 0 0" ∷ bytes "(bin 7 -1 0 0)" ∷ bytes ")" ∷ bytes ")" ∷ [])
    ∷ [])
    ≡ 0 ∷ 0 ∷ 0 ∷ 0 ∷ []
unfolding evaluation refusals
accepted = refl

-- ---- what is refused

-- -0, +5, 05, CR, indentation, a blank line, a group with its bracket closed, a number too large, one past 64 bits, a bin above 65,535
malformed : refusals (
    (bytes "(bin 0 -0 0 0)" ∷ [])
    ∷ (bytes "(bin 0 +5 0 0)" ∷ [])
    ∷ (bytes "(bin 0 05 0 0)" ∷ [])
    ∷ ((bytes "(bin 0 5 0 0)" ++ 13 ∷ []) ∷ [])
    ∷ (bytes " (bin 0 5 0 0)" ∷ [])
    ∷ ([] ∷ [])
    ∷ (bytes "(group 0 0 0)" ∷ bytes ")" ∷ [])
    ∷ (bytes "(bin 0 1099511627777 0 0)" ∷ [])
    ∷ (bytes "(bin 0 18446744073709551616 0 0)" ∷ [])
    ∷ (bytes "(bin 65536 0 0 0)" ∷ [])
    ∷ [])
    ≡ 61 ∷ 61 ∷ 61 ∷ 61 ∷ 61 ∷ 61 ∷ 61 ∷ 61 ∷ 61 ∷ 61 ∷ []
unfolding evaluation refusals
malformed = refl

-- a bracket with no group open, an end with one open, a last line without its LF
unbalanced : refusals ((bytes ")" ∷ []) ∷ (bytes "(group 0 0 0" ∷ []) ∷ []) ≡ 61 ∷ 61 ∷ []
unfolding evaluation refusals
unbalanced = refl

unended : plan_of 2 (bytes "(bin 0 0 0 0)") ≡ Reading.Refused 61
unfolding evaluation
unended = refl

-- a seventeenth group, a bin's place out of range, a third bin, a third bin out of range; an earlier line wins, also before an end with a group open
limits : refusals (
    (replicate 17 (bytes "(group 0 0 0"))
    ∷ (bytes "(group 1 0 0" ∷ bytes "(bin 0 1099511627776 0 0)" ∷ [])
    ∷ (replicate 3 (bytes "(bin 0 0 0 0)"))
    ∷ (bytes "(group 0 0 -1" ∷ bytes "(bin 0 0 0 0)" ∷ bytes "(bin 0 0 0 0)" ∷ bytes "(bin 0 0 0 -1099511627776)" ∷ [])
    ∷ (replicate 3 (bytes "(bin 0 0 0 0)") ++ bytes "x" ∷ [])
    ∷ (bytes "(group 0 0 0" ∷ replicate 3 (bytes "(bin 0 0 0 0)"))
    ∷ [])
    ≡ 62 ∷ 63 ∷ 64 ∷ 63 ∷ 64 ∷ 64 ∷ []
unfolding evaluation refusals
limits = refl

-- ---- lent lists

-- an entry in front of a list of seven numbers; a refusal leaves it
old : List ℤ
old = replicate 7 (pos 9)

list_after_lem : list_after (plan_of 1 (lines (bytes "(bin 3 1 -2 0)" ∷ []))) old ≡ pos 3 ∷ pos 1 ∷ negsuc 1 ∷ pos 0 ∷ pos 9 ∷ pos 9 ∷ pos 9 ∷ []
unfolding evaluation old
list_after_lem = refl

list_kept : list_after (plan_of 1 (lines (bytes "(bin 3 1 -2 0)" ∷ bytes ")" ∷ []))) old ≡ old
unfolding evaluation old
list_kept = refl

-- a listing of fifteen bytes written into seventeen, and into one too few
listed : List ℤ
listed = pos 3 ∷ pos 1 ∷ negsuc 1 ∷ pos 0 ∷ pos 9 ∷ []

text_after_lem : text_after (writing_of 17 (entries_in listed)) (replicate 17 7) ≡ bytes "(bin 3 1 -2 0)" ++ 10 ∷ 7 ∷ 7 ∷ []
unfolding evaluation listed
text_after_lem = refl

text_short : writing_of 14 (entries_in listed) ≡ Writing.Refused 68
unfolding evaluation listed
text_short = refl

-- a bin below 0 and above 65,535, and a place out of range, which comes after the bin
text_refused :
    (writing_of 0 (entries_in (negsuc 0 ∷ pos 0 ∷ pos 0 ∷ pos 0 ∷ []))
    ∷ writing_of 0 (entries_in (pos 65536 ∷ pos 1099511627777 ∷ pos 0 ∷ pos 0 ∷ []))
    ∷ writing_of 0 (entries_in (pos 65535 ∷ pos 1099511627777 ∷ pos 0 ∷ pos 0 ∷ []))
    ∷ writing_of 0 (entries_in (pos 0 ∷ pos 0 ∷ pos 0 ∷ pos 0 ∷ []))
    ∷ writing_of 0 [] ∷ [])
    ≡ Writing.Refused 61 ∷ Writing.Refused 61 ∷ Writing.Refused 63 ∷ Writing.Refused 68 ∷ Written [] ∷ []
unfolding evaluation
text_refused = refl
