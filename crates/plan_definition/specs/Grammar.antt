-- What a plan is, what text it has, and which bins it places where: the grammar of the yard plan. Assumes nothing.
use Rattle.std.specs.Prelude.{Bool, true, ◌&&◌, List, [], ◌∷◌, ◌++◌, ℕ, suc, leb, ltb, ℤ, pos, negsuc, length}
use Rattle.body_refusals.specs.TableChecks.{most_bin}
use Rattle.sheet_digits.specs.Bytes.{bytes}
use Rattle.sheet_digits.specs.Digits.{decimal}
use Rattle.sheet_digits.specs.Offsets.{minus}
use Rattle.plan_definition.specs.Places.{Place, total, in_range}

-- A plan: nothing; or a bin with its number and offset, and what follows it; or a group with its offset, what it holds, and what follows it.
pub data Plan : Type 0 where
  nothing : Plan
  bin : ℕ → Place → Plan → Plan
  group : Place → Plan → Plan → Plan

-- ---- its text

-- a whole number in decimal without leading zeros, a negative one with a minus
unfoldable pub integer : ℤ → List ℕ
integer (pos n) = decimal n
integer (negsuc n) = minus ∷ decimal (suc n)

-- an offset: a space before each of its three numbers, then what follows
unfoldable pub offset_text : Place → List ℕ → List ℕ
offset_text o rest = 32 ∷ (integer o.x ++ 32 ∷ (integer o.y ++ 32 ∷ (integer o.z ++ rest)))

-- the three lines, each with its LF
unfoldable pub group_line : Place → List ℕ
group_line o = bytes "(group" ++ offset_text o (10 ∷ [])

unfoldable pub bin_line : ℤ → Place → List ℕ
bin_line n o = bytes "(bin" ++ 32 ∷ (integer n ++ offset_text o (bytes ")" ++ 10 ∷ []))

unfoldable pub close_line : List ℕ
close_line = bytes ")" ++ 10 ∷ []

-- the text of a plan
unfoldable pub plan_text : Plan → List ℕ
plan_text nothing = []
plan_text (bin n o rest) = bin_line (pos n) o ++ plan_text rest
plan_text (group o inner rest) = group_line o ++ (plan_text inner ++ (close_line ++ plan_text rest))

-- ---- the bins that it places

-- a bin in its place; a bin's number is signed, as a lent list has it
pub record Entry : Type 0 where
  pub bin : ℤ
  pub place : Place

abbrev pub entry : ℤ → Place → Entry
entry n p = record { bin = n; place = p }

-- the bins of a plan that stands in the groups of a path, in the order read, each at the sum along its path
unfoldable pub placed : List Place → Plan → List Entry
placed path nothing = []
placed path (bin n o rest) = entry (pos n) (total (o ∷ path)) ∷ placed path rest
placed path (group o inner rest) = placed (o ∷ path) inner ++ placed path rest

-- ---- its limits

-- how many groups may be open at once
abbrev pub most_depth : ℕ
most_depth = 16

-- whether a plan that stands in the groups of a path keeps the limits: offsets, bin numbers and places in range, groups not too deep
unfoldable pub keeps_limits : List Place → Plan → Bool
keeps_limits path nothing = true
keeps_limits path (bin n o rest) = in_range o && (leb n most_bin && (in_range (total (o ∷ path)) && keeps_limits path rest))
keeps_limits path (group o inner rest) = in_range o && (ltb (length path) most_depth && (keeps_limits (o ∷ path) inner && keeps_limits path rest))

-- whether a plan is inside the limits, a list having room for so many bins
abbrev pub inside_limits : ℕ → Plan → Bool
inside_limits room plan = keeps_limits [] plan && leb (length (placed [] plan)) room
