-- What the passes over the rows ask and give. Assumes nothing.
use Rattle.std.specs.Prelude.{◌≡◌, ◌⊎◌, Bool, true, false, ◌&&◌, cond, List, [], ℕ, suc, ◌+◌, ◌*◌, ◌≤◌, ◌<◌, eqb, leb, ltb, ℤ, pos, nat_abs, ◌-ℤ◌, length, get_or, set, take, Float, min}
use Rattle.signed_numbers.specs.Range.{farthest}
use Rattle.lists.specs.Lists.{written}
use Rattle.body_rows.specs.Body.{rows_of, patches_of, all_vertices}
use Rattle.body_rows.specs.Rows.{row_at, WholeRows}
use Rattle.body_refusals.specs.TableChecks.{most_bin, most_vertices}
use Rattle.plan_definition.specs.Places.{Place, in_range}
use Rattle.peg_definition.specs.Peg.{Hit, hits_of, places_of}
use Rattle.peg_definition.specs.PlaceLaws.{place_at}
use Rattle.peg_distance.specs.Words.{RowRange, beyond}
use Rattle.plan_definition.specs.declared.PlaceWords.{PlaceWords}
use Rattle.peg_search.specs.Hits.{Ties, least_of}
use Rattle.peg_search.specs.declared.best.Best.{Best}

-- ---- a placed body

-- the peg of its words
abbrev pub peg_of : PlaceWords → Place
peg_of w = record { x = pos w.x -ℤ pos farthest; y = pos w.y -ℤ pos farthest; z = pos w.z -ℤ pos farthest }

-- whole rows with their positions, bins in range, and a place in range for each row and for the peg
pub record Placed (table : List ℕ) (ps : List Float) (list : List ℤ) (peg : PlaceWords) : Type 0 where
  pub rows : WholeRows table
  pub positions : length ps ≡ 3 * all_vertices (rows_of table)
  pub few : all_vertices (rows_of table) ≤ most_vertices
  pub bins : (k : ℕ) → k < length (rows_of table) → (row_at table k).bin ≤ most_bin
  pub places : 3 * length (rows_of table) ≤ length list
  pub range : (k : ℕ) → k < length (rows_of table) → in_range (place_at list k) ≡ true
  pub peg_x : peg.x ≤ 2 * farthest
  pub peg_y : peg.y ≤ 2 * farthest
  pub peg_z : peg.z ≤ 2 * farthest

-- its vertices that are not ignored; normals and indices play no part
abbrev pub body_hits : List ℕ → List Float → List ℤ → PlaceWords → List Hit
body_hits table ps list peg = hits_of (peg_of peg) (patches_of (rows_of table) ps [] []) (places_of list)

-- ---- the smallest sum of squares

-- that of no rows
abbrev pub no_best : Best
no_best = record { square = beyond; low = 0; high = 0 }

-- that of some rows and one more, whose bin comes as near as s
abbrev pub best_with : Best → ℕ → ℕ → Best
best_with b s bin =
    cond (ltb s b.square) (record { square = s; low = bin; high = bin })
    (cond (ltb b.square s) b
    (cond (ltb bin b.low) (record { square = s; low = bin; high = b.high }) (cond (ltb b.high bin) (record { square = s; low = b.low; high = bin }) b)))

-- r has the smallest of some vertices, and the lowest and the highest bin that share it
pub record BestOf (hits : List Hit) (r : Best) : Type 0 where
  pub least : r.square ≡ least_of hits
  pub lowest : r.square < beyond → Ties r.square r.low hits
  pub highest : r.square < beyond → Ties r.square r.high hits
  pub between : (b : ℕ) → Ties r.square b hits → (r.low ≤ b) × (b ≤ r.high)
  pub order : r.low ≤ r.high
  pub most : r.high ≤ most_bin

-- ---- the next bin

-- a bin number that no row has
abbrev pub no_bin : ℕ
no_bin = suc most_bin

-- the lower of a row's bin, from `first` on, and what was found
abbrev pub lower_bin : ℕ → ℕ → ℕ → ℕ
lower_bin bin first found = cond (ltb bin first) found (min bin found)

-- r is the lowest bin of a row from `first` on, or no row has one
pub record NextBin (table : List ℕ) (first r : ℕ) : Type 0 where
  pub most : r ≤ no_bin
  pub from : r < no_bin → first ≤ r
  pub lowest : (k : ℕ) → k < length (rows_of table) → first ≤ (row_at table k).bin → r ≤ (row_at table k).bin

-- ---- whether a bin has the smallest sum of squares

-- row k is there, with its coordinates from `from` up to `to` and its place in range
pub record RowThere (table : List ℕ) (ps : List Float) (list : List ℤ) (peg : PlaceWords) (k from to : ℕ) : Type 0 where
  pub row : k < length (rows_of table)
  pub order : from ≤ to
  pub inside : to ≤ length ps
  pub range : RowRange list k peg

-- whether a row of a bin that comes as near as m is of the wanted bin, and comes as near as s
abbrev pub row_ties : ℕ → ℕ → ℕ → ℕ → Bool
row_ties bin wanted s m = eqb bin wanted && eqb m s

-- r tells it
pub record BinTies (hits : List Hit) (s bin : ℕ) (r : Bool) : Type 0 where
  pub has : r ≡ true → Ties s bin hits
  pub none : r ≡ false → Ties s bin hits → ⊥

-- ---- the list

-- item i, where there is one, became n
pub record BinPut (E : List ℕ) (i n : ℕ) (W : List ℕ) : Type 0 where
  pub inside : i < length E → W ≡ set E i n
  pub outside : length E ≤ i → W ≡ E

-- a bin went behind the i bins of a list if it has the sum of squares s; r is how many there are then
pub record OneListed (hits : List Hit) (s bin : ℕ) (E W : List ℕ) (i r : ℕ) : Type 0 where
  pub tells : Bool
  pub ties : BinTies hits s bin tells
  pub put : tells ≡ true → BinPut E i bin W × (r ≡ i + 1)
  pub kept : tells ≡ false → (W ≡ E) × (r ≡ i)

-- r is how many bins there are; where a list has room for them, they went into its front
pub record Listed (bins E W : List ℕ) (r : ℕ) : Type 0 where
  pub count : r ≡ length bins
  pub few : r ≤ no_bin
  pub long : length W ≡ length E
  pub front : r ≤ length E → W ≡ written bins E
