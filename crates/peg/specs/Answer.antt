-- What a lookup answers and leaves of its list. Assumes nothing.
use Rattle.std.specs.Prelude.{◌≡◌, true, false, List, [], ℕ, ◌*◌, ◌≤◌, ◌<◌, ltb, ℤ, nat_abs, length, Float, Result}
use Rattle.signed_numbers.specs.Range.{farthest}
use Rattle.body_rows.specs.Body.{all_vertices, patches_of, rows_of}
use Rattle.body_rows.specs.Rows.{WholeRows, row_at}
use Rattle.body_refusals.specs.TableChecks.{most_bin, most_vertices}
use Rattle.plan_definition.specs.Places.{Place, in_range}
use Rattle.peg_definition.specs.Peg.{Hit, Lookup, Refused, Found, bins_after, hits_of, lookup_of, places_of, too_many_bins}
use Rattle.peg_definition.specs.PlaceLaws.{place_at}
use Rattle.peg_definition.specs.Answers.{peg_answer}

-- the place x, y, z
abbrev pub at : ℤ → ℤ → ℤ → Place
at x y z = record { x = x; y = y; z = z }

-- a body whose rows and places are sound, and a peg, all in range
pub record Ranged (table : List ℕ) (ps : List Float) (list : List ℤ) (x y z : ℤ) : Type 0 where
  pub rows : WholeRows table
  pub positions : length ps ≡ 3 * all_vertices (rows_of table)
  pub few : all_vertices (rows_of table) ≤ most_vertices
  pub bins : (k : ℕ) → k < length (rows_of table) → (row_at table k).bin ≤ most_bin
  pub places : 3 * length (rows_of table) ≤ length list
  pub range : (k : ℕ) → k < length (rows_of table) → in_range (place_at list k) ≡ true
  pub x_range : nat_abs x ≤ farthest
  pub y_range : nat_abs y ≤ farthest
  pub z_range : nat_abs z ≤ farthest

-- its vertices that are not ignored; normals and indices play no part
abbrev pub placed_hits : List ℕ → List Float → List ℤ → ℤ → ℤ → ℤ → List Hit
placed_hits table ps list x y z = hits_of (at x y z) (patches_of (rows_of table) ps [] []) (places_of list)

-- the answer where only a list that is too short can be refused
unfoldable pub fitting : ℕ → List ℕ → Lookup
fitting room bins = elim (ltb room (length bins)) [ true ↦ Refused too_many_bins | false ↦ Found bins ]

-- bins went into the front of a list that has room for them, or were refused
pub record BinsListed (bins E W : List ℕ) (r : Result ℕ ℕ) : Type 0 where
  pub answer : r ≡ peg_answer (fitting (length E) bins)
  pub list : W ≡ bins_after (fitting (length E) bins) E

-- r answers the lookup of a peg at x, y, z, and the list is as the definition leaves it
pub record PegFound (table : List ℕ) (ps ns : List Float) (is : List ℕ) (places : List ℤ) (x y z : ℤ) (E W : List ℕ) (r : Result ℕ ℕ) : Type 0 where
  pub answer : r ≡ peg_answer (lookup_of table ps ns is places (at x y z) (length E))
  pub list : W ≡ bins_after (lookup_of table ps ns is places (at x y z) (length E)) E
