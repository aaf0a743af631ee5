-- The definitions that the theorems of this name in proofs/ speak of. Assumes nothing.
use Rattle.std.specs.Prelude.{◌≡◌, ℕ}
use Rattle.std.proofs.Math.Bool.{true, false, cond}
use mathlib.Core.List.{List, [], ◌∷◌, ◌++◌}
use Rattle.std.proofs.Math.Dec.{eqb}
use Rattle.std.specs.Float.Ieee.{lt}
use Rattle.lists.specs.Lists.{filter}
use Rattle.float_steps.specs.Floats.{absolute}
use Rattle.patch_geometry.specs.Geometry.{sub}
use Rattle.stitch_splits.specs.Splits.{near_last}
use Rattle.stitch_splits.specs.Entries.{Entry, insert_entry}
use Rattle.lists.specs.Each.{Each}

-- into entries sorted by parameter, behind all that are not above it
unfoldable pub insert_at : Entry → List Entry → List Entry
insert_at x [] = x ∷ []
insert_at x (y ∷ ys) = cond (lt x.t y.t) (x ∷ y ∷ ys) (y ∷ insert_at x ys)

-- entries inserted one by one, by parameter
unfoldable pub sort_at : List Entry → List Entry → List Entry
sort_at S [] = S
sort_at S (x ∷ xs) = sort_at (insert_at x S) xs

-- those not closer than 1e-9 to the last kept
unfoldable pub drop_near_at : Entry → List Entry → List Entry
drop_near_at last [] = []
drop_near_at last (y ∷ ys) = elim (lt (absolute (sub y.t last.t)) near_last) [ true ↦ drop_near_at last ys | false ↦ y ∷ drop_near_at y ys ]

-- the first is kept
unfoldable pub drop_close_at : List Entry → List Entry
drop_close_at [] = []
drop_close_at (x ∷ xs) = x ∷ drop_near_at x xs

-- the entries of edge k
abbrev pub on_edge : ℕ → List Entry → List Entry
on_edge k xs = filter (λ x. eqb x.e k) xs

-- the entries that edge k keeps
abbrev pub kept_at : List Entry → ℕ → List Entry
kept_at xs k = drop_close_at (sort_at [] (on_edge k xs))

-- entries inserted one by one, by edge and parameter
unfoldable pub insert_all : List Entry → List Entry → List Entry
insert_all C [] = C
insert_all C (x ∷ xs) = insert_all (insert_entry x C) xs

-- each entry has an edge that Q tells
abbrev pub EdgesEach : (ℕ → Type 0) → List Entry → Type 0
EdgesEach Q xs = Each (λ x. Q x.e) xs

-- the entries of all edges in one list, and of each
abbrev pub Sorts : List Entry → Type 0
Sorts xs = (S₀ S₁ S₂ : List Entry) → EdgesEach (λ k. k ≡ 0) S₀ → EdgesEach (λ k. k ≡ 1) S₁ → EdgesEach (λ k. k ≡ 2) S₂
    → insert_all (S₀ ++ S₁ ++ S₂) xs ≡ sort_at S₀ (on_edge 0 xs) ++ sort_at S₁ (on_edge 1 xs) ++ sort_at S₂ (on_edge 2 xs)
