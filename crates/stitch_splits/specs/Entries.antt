-- The placed points of a triangle as entries in the work area: edge and vertex in one word, the parameter's bits in another. Assumes nothing.
use Rattle.std.proofs.Common.{arith, sym, ap, ◌∙◌, length-drop, length-take-le}
use Rattle.std.specs.Prelude.{◌≡◌, refl, Bool, true, false, ◌&&◌, ◌||◌, List, [], ◌∷◌, ◌++◌, ℕ, ◌+◌, ◌/◌, ◌%◌, ◌<◌, ◌≤◌, length, get_or, take, drop, set, eqb, ltb, Float}
use Rattle.std.specs.Float.Ieee.{lt}
use Rattle.lists.specs.Stretches.{stretch_more}
use Rattle.float_steps.specs.Floats.{f64, absolute}
use Rattle.patch_geometry.specs.Geometry.{sub}
use Rattle.stitch_splits.specs.Splits.{near_last}

-- a vertex placed on edge e of a triangle at parameter t
pub record Entry : Type 0 where
  pub e : ℕ
  pub t : Float
  pub vertex : ℕ

-- the entry of its two words
abbrev pub entry_of : ℕ → ℕ → Entry
entry_of x y = record { e = x / 262144; t = f64 y; vertex = x % 262144 }

-- the entries of two lists of words
unfoldable pub entries_of : List ℕ → List ℕ → List Entry
entries_of [] ys = []
entries_of (x ∷ xs) [] = []
entries_of (x ∷ xs) (y ∷ ys) = entry_of x y ∷ entries_of xs ys

-- the `count` entries that stand at `at`, their parameters at `ts`
abbrev pub entries_in : List ℕ → ℕ → ℕ → ℕ → List Entry
entries_in W at ts count = entries_of (take count (drop at W)) (take count (drop ts W))

-- y comes after x: on a later edge, or on the same edge at a higher parameter
abbrev pub after : Entry → Entry → Bool
after x y = ltb x.e y.e || (eqb x.e y.e && lt x.t y.t)

-- by edge and parameter, behind all that do not come after it
unfoldable pub insert_entry : Entry → List Entry → List Entry
insert_entry x [] = x ∷ []
insert_entry x (y ∷ ys) = elim (after x y) [ true ↦ x ∷ y ∷ ys | false ↦ y ∷ insert_entry x ys ]

-- whether y is on the edge of x and closer than 1e-9 to it
abbrev pub close_to : Entry → Entry → Bool
close_to x y = eqb y.e x.e && lt (absolute (sub y.t x.t)) near_last

-- one that close to the last kept is dropped
unfoldable pub drop_after : Entry → List Entry → List Entry
drop_after last [] = []
drop_after last (y ∷ ys) = elim (close_to last y) [ true ↦ drop_after last ys | false ↦ y ∷ drop_after y ys ]

-- the first is kept
unfoldable pub kept_entries : List Entry → List Entry
kept_entries [] = []
kept_entries (x ∷ xs) = x ∷ drop_after x xs

-- the entry at place j
abbrev pub entry_at : List ℕ → ℕ → ℕ → ℕ → Entry
entry_at W at ts j = entry_of (get_or W (at + j) 0) (get_or W (ts + j) 0)

-- what looking at place j asks
pub record EntryPlace (at ts j : ℕ) (W : List ℕ) : Type 0 where
  pub words : at + j < length W
  pub parameters : ts + j < length W

-- what looking at places j and k asks
pub record EntryPlaces (at ts j k : ℕ) (W : List ℕ) : Type 0 where
  pub first : EntryPlace at ts j W
  pub second : EntryPlace at ts k W

-- a word more in both lists is an entry more
pub entries_append : (X Y : List ℕ) (x y : ℕ) → length X ≡ length Y → entries_of (X ++ x ∷ []) (Y ++ y ∷ []) ≡ entries_of X Y ++ entry_of x y ∷ []
unfolding entries_of
entries_append [] [] x y e = refl
entries_append [] (b ∷ Y) x y e = absurd (omega arith)
entries_append (a ∷ X) [] x y e = absurd (omega arith)
entries_append (a ∷ X) (b ∷ Y) x y e = ap (λ (r : List Entry). entry_of a b ∷ r) (entries_append X Y x y (omega arith))

-- behind the first j entries stands the entry at place j
pub entries_more : (W : List ℕ) (at ts j : ℕ) → at + j < length W → ts + j < length W → entries_in W at ts (j + 1) ≡ entries_in W at ts j ++ entry_at W at ts j ∷ []
entries_more W at ts j l m =
    (λ i. entries_of (stretch_more W at j 0 l i) (stretch_more W ts j 0 m i))
    ∙ entries_append (take j (drop at W)) (take j (drop ts W)) (get_or W (at + j) 0) (get_or W (ts + j) 0)
    (length-take-le j (drop at W) (omega (arith, length-drop at W)) ∙ sym (length-take-le j (drop ts W) (omega (arith, length-drop ts W))))
