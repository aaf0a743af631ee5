-- The laws of the peg and of the places in range. Assumes nothing.
use mathlib.Core.Path.{◌≡◌, refl, sym, ap, ◌∙◌}
use mathlib.Core.Bool.{Bool, true, false, not, ◌&&◌, ◌||◌}
use mathlib.Core.List.{List, [], ◌∷◌}
use Prim.Native.Nat.{ℕ, suc, ◌+◌, ◌*◌, ◌/◌, ◌^◌, ◌≤◌, ◌<◌}
use native.Mathlib.Omega.{arith}
use borrow.Author.Tests.{not-true, not-false, lt-ltb, le-ltb}
use lib.Dec.{ltb}
use lib.IntN.{ℤ, pos}
use lib.Signed.{mag}
use lib.ListN.{length, get_or, take, drop}
use lib.Seq.{get_or-take, length-take-le, drop-cons}
use mir.Syntax.{w64}
use mir.Val.{SFits}
use mir.ValLaws.{to_z-of_z}
use Rattle.signed_numbers.specs.Range.{within}
use Rattle.signed_numbers.specs.Bits.{read}
use Rattle.lists.specs.Lists.{any}
use Rattle.lists.specs.Any.{Searched, searched_none, searched_more, searched_hit, searched_all}
use Rattle.plan_definition.specs.Places.{Place, in_range, origin}
use Rattle.peg_definition.specs.Peg.{bad_places, places_of}
use Rattle.peg_definition.specs.PlaceLaws.{place_at, places_here, places_length}
use Rattle.peg.specs.Answer.{at}

-- ---- a place

-- the place of a row, as the machine reads it
pub row_tested : (list : List ℤ) (k : ℕ) (r : Bool) → SFits w64 (get_or list (3 * k) (pos 0)) → SFits w64 (get_or list (3 * k + 1) (pos 0)) → SFits w64 (get_or list (3 * k + 2) (pos 0))
    → r ≡ in_range (at (read (get_or list (3 * k) (pos 0))) (read (get_or list (3 * k + 1) (pos 0))) (read (get_or list (3 * k + 2) (pos 0)))) → r ≡ in_range (place_at list k)
row_tested list k r f g h e =
    e ∙ (λ i. in_range (at (to_z-of_z w64 (get_or list (3 * k) (pos 0)) f i) (to_z-of_z w64 (get_or list (3 * k + 1) (pos 0)) g i) (to_z-of_z w64 (get_or list (3 * k + 2) (pos 0)) h i)))

-- ---- the places of n rows
abbrev pub outside : Place → Bool
outside p = not (in_range p)

-- the first k of them are in range
pub record Ranging (list : List ℤ) (n k : ℕ) : Type 0 where
  pub room : 3 * n ≤ length list
  pub searched : Searched outside (take n (places_of list)) k

-- the place at k is row k's
pub place_is : (list : List ℤ) (k : ℕ) → 3 * k + 2 < length list → get_or (places_of list) k origin ≡ place_at list k
place_is list k h = ap first (sym (drop-cons (places_of list) k origin (omega (arith, places_length list))) ∙ places_here list k h)
  where
    first : List Place → Place
    first [] = origin
    first (p ∷ ps) = p

pub ranging_none : (list : List ℤ) (n : ℕ) → 3 * n ≤ length list → Ranging list n 0
ranging_none list n h = record { room = h; searched = searched_none outside (take n (places_of list)) }

module _ (list : List ℤ) (n k : ℕ) (v : Ranging list n k) where
  long : length (take n (places_of list)) ≡ n
  long = length-take-le n (places_of list) (omega (arith, places_length list, v.room))

  pub row_there : k < n → 3 * k + 2 < length list
  row_there h = omega (arith, v.room)

  module _ (h : k < n) (r : Bool) (e : r ≡ in_range (place_at list k)) where
    here : outside (get_or (take n (places_of list)) k origin) ≡ not r
    here = ap outside (get_or-take n (places_of list) k origin h ∙ place_is list k (row_there h)) ∙ ap not (sym e)

    pub ranging_hit : not r ≡ true → true ≡ any outside (take n (places_of list))
    ranging_hit q = searched_hit origin v.searched (omega (arith, long)) (here ∙ q)

    pub ranging_more : not r ≡ false → Ranging list n (k + 1)
    ranging_more q = record { room = v.room; searched = searched_more origin v.searched (omega (arith, long)) (here ∙ q) }

  pub ranging_all : n ≤ k → false ≡ any outside (take n (places_of list))
  ranging_all h = searched_all v.searched (omega (arith, long))

-- ---- 65
module _ (list : List ℤ) (n : ℕ) (x y z : ℤ) (r : Bool) (fx : SFits w64 x) (fy : SFits w64 y) (fz : SFits w64 z) (d : r ≡ in_range (at (read x) (read y) (read z))) where
  e : r ≡ in_range (at x y z)
  e = d ∙ (λ i. in_range (at (to_z-of_z w64 x fx i) (to_z-of_z w64 y fy i) (to_z-of_z w64 z fz i)))

  pub peg_out : not r ≡ true → true ≡ bad_places (at x y z) list n
  unfolding bad_places
  peg_out q = rw (sym e, q)

  module _ (q : not r ≡ false) where
    pub places_few : length list / 3 < n → true ≡ bad_places (at x y z) list n
    unfolding bad_places
    places_few h = rw (sym e, q, places_length list, lt-ltb (length list / 3) n h)

    pub places_tested : n ≤ length list / 3 → (t : Bool) → t ≡ any (λ p. not (in_range p)) (take n (places_of list)) → t ≡ bad_places (at x y z) list n
    unfolding bad_places
    places_tested h t c = rw (sym e, q, places_length list, le-ltb (length list / 3) n h, sym c)

pub enough_places : (list : List ℤ) (n : ℕ) → n ≤ length list / 3 → 3 * n ≤ length list
enough_places list n h = omega arith
