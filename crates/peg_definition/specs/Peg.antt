-- Which bins stand nearest a peg: document 02's N4, in whole micrometres. Assumes nothing.
use Rattle.std.specs.Prelude.{Bool, not, ◌&&◌, ◌||◌, cond, List, [], ◌∷◌, ◌++◌, map, ℕ, zero, suc, ◌+◌, ◌*◌, leb, ltb, ℤ, nat_abs, ◌-ℤ◌, length, take, Float}
use Rattle.lists.specs.Lists.{any, all, filter, ascending, written}
use Rattle.point_rules.specs.Points.{nearest}
use Rattle.body_rows.specs.Body.{Patch, Check, check, rows_of, patches_of, first_failing}
use Rattle.body_refusals.specs.BodyChecks.{before_work}
use Rattle.plan_definition.specs.Places.{Place, moved, in_range}

-- ---- a vertex

-- micrometres of a millimetre, in which positions are given
abbrev pub micrometres : ℕ
micrometres = 1000

-- Each vertex is taken to the nearest whole micrometre, halves away from zero, plus its row's place.
abbrev pub standing : Place → Float → Float → Float → Place
standing place x y z = moved place (record { x = nearest micrometres x; y = nearest micrometres y; z = nearest micrometres z })

-- how far apart two places are on an axis
abbrev pub apart : ℤ → ℤ → ℕ
apart a b = nat_abs (a -ℤ b)

-- the farthest that a vertex that counts is from the peg on an axis
abbrev pub reach : ℕ
reach = 5000

-- A vertex more than 5,000 away on any axis is ignored.
abbrev pub near : Place → Place → Bool
near peg p = leb (apart p.x peg.x) reach && (leb (apart p.y peg.y) reach && leb (apart p.z peg.z) reach)

-- the sum of the squares of how far apart they are on the axes
abbrev pub squares_sum : Place → Place → ℕ
squares_sum peg p =
    let x = apart p.x peg.x in let y = apart p.y peg.y in let z = apart p.z peg.z in x * x + y * y + z * z

-- ---- those that are not ignored

-- a vertex that is not ignored: its bin, which is its row's, and its sum of squares
pub record Hit : Type 0 where
  pub bin : ℕ
  pub square : ℕ

-- those of a row, every vertex of its three coordinates, used or not
unfoldable pub row_hits : Place → ℕ → Place → List Float → List Hit
row_hits peg bin place [] = []
row_hits peg bin place (x ∷ []) = []
row_hits peg bin place (x ∷ y ∷ []) = []
row_hits peg bin place (x ∷ y ∷ z ∷ ps) =
    let p = standing place x y z in let rest = row_hits peg bin place ps in cond (near peg p) (record { bin = bin; square = squares_sum peg p } ∷ rest) rest

-- those of a body, with a place for each row
unfoldable pub hits_of : Place → List Patch → List Place → List Hit
hits_of peg [] places = []
hits_of peg (p ∷ patches) [] = []
hits_of peg (p ∷ patches) (q ∷ places) = row_hits peg p.row.bin q p.positions ++ hits_of peg patches places

-- ---- the answer

-- The smallest sum of squares wins.
unfoldable pub winners : List Hit → List Hit
winners hits = filter (λ h. all (λ g. leb h.square g.square) hits) hits

-- All bins that share it are the answer, ascending, each once.
unfoldable pub nearest_bins : List Hit → List ℕ
nearest_bins hits = ascending (map (λ h. h.bin) (winners hits))

-- ---- the call

-- the places of a lent list, three numbers each; numbers behind the last whole place are none
unfoldable pub places_of : List ℤ → List Place
places_of [] = []
places_of (x ∷ []) = []
places_of (x ∷ y ∷ []) = []
places_of (x ∷ y ∷ z ∷ ns) = record { x = x; y = y; z = z } ∷ places_of ns

-- the refusals
abbrev pub misplaced : ℕ
misplaced = 65

abbrev pub too_many_bins : ℕ
too_many_bins = 66

-- 65: the peg or a row's place is outside the range, or there are fewer places than rows
unfoldable pub bad_places : Place → List ℤ → ℕ → Bool
bad_places peg list rows = not (in_range peg) || (ltb (length (places_of list)) rows || any (λ p. not (in_range p)) (take rows (places_of list)))

-- the checks of a lookup whose list has room for so many bins, of which so many are the answer
unfoldable pub peg_checks : List ℕ → List Float → List Float → List ℕ → List ℤ → Place → ℕ → ℕ → List Check
peg_checks table ps ns is list peg room count =
    before_work table ps ns is ++ check misplaced (bad_places peg list (length (rows_of table))) ∷ check too_many_bins (ltb room count) ∷ []

-- the bins nearest a peg, of a body whose rows have their places in a list
unfoldable pub bins_of : List ℕ → List Float → List Float → List ℕ → List ℤ → Place → List ℕ
bins_of table ps ns is list peg = nearest_bins (hits_of peg (patches_of (rows_of table) ps ns is) (places_of list))

-- what a lookup comes to
pub data Lookup : Type 0 where
  Refused : ℕ → Lookup
  Found : List ℕ → Lookup

-- what it is, with a list that has room for so many bins
unfoldable pub lookup_of : List ℕ → List Float → List Float → List ℕ → List ℤ → Place → ℕ → Lookup
lookup_of table ps ns is list peg room =
    let bins = bins_of table ps ns is list peg in
    elim (first_failing (peg_checks table ps ns is list peg room (length bins))) [ zero ↦ Found bins | suc n ↦ Refused (suc n) ]

-- what it leaves of the list: the bins in front, or all as it was
unfoldable pub bins_after : Lookup → List ℕ → List ℕ
bins_after (Refused n) old = old
bins_after (Found bins) old = written bins old
