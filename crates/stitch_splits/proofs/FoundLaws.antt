-- What the code finds and keeps of a triangle is what the definition does. Assumes nothing.
use Rattle.std.specs.Prelude.{◌≡◌, Bool, true, false, cond, ℕ, ◌<◌, get_or, Float}
use Rattle.std.proofs.Math.Path.{refl, ap}
use Rattle.std.proofs.Common.{sym, ◌∙◌}
use mathlib.Core.List.{List, [], ◌∷◌, ◌++◌, map}
use Rattle.std.proofs.Math.Option.{Option, none, some}
use Rattle.std.proofs.Math.ListN.{length}
use Rattle.lists.specs.Lists.{filter, filter_map}
use Rattle.point_rules.specs.Points.{key}
use Rattle.point_rules.specs.Rule.{names}
use Rattle.patch_geometry.specs.Geometry.{point_at}
use Rattle.stitch_loose_points.specs.Loose.{Facet}
use Rattle.stitch_loose_points.specs.Listed.{loose_of}
use Rattle.stitch_splits.specs.declared.sides.Sides.{Sides}
use Rattle.stitch_splits.specs.Splits.{Placed, sides_of, place, kept_on, split_triangle}
use Rattle.stitch_splits.specs.Entries.{Entry, insert_entry, kept_entries}
use Rattle.stitch_splits.specs.declared.sides.Spot.{Spot}
use Rattle.stitch_splits.specs.Found.{sides_from, found_only, spot_of, with_spot, with_vertex, entries_on, triangle_found, triangle_kept}
use Rattle.stitch_splits.specs.Filters.{map_option, filter_map_append}
use Rattle.stitch_splits.specs.Cells.{cells_name}
use Rattle.stitch_splits.proofs.FoundPoints.{found_points, found_count_lem}
use Rattle.stitch_splits.specs.FoundPoints.{Distinct, found_vertices, all_found}
use Rattle.stitch_splits.proofs.Places.{points_placed, placed_edges}
use Rattle.stitch_splits.specs.Places.{placed_of, placed_entry}
use Rattle.stitch_splits.proofs.Sorted.{kept_placed}
use Rattle.stitch_splits.specs.Sorted.{insert_all}

-- entries inserted behind others
insert_append : (C xs ys : List Entry) → insert_all C (xs ++ ys) ≡ insert_all (insert_all C xs) ys
unfolding insert_all
insert_append C [] ys = refl
insert_append C (x ∷ xs) ys = insert_append (insert_entry x C) xs ys

module _ (sag : Float) (ps : List Float) (ns : List ℕ) (s : Sides) where
  -- the entries with all vertices found on an edge have the placed ones inserted
  edge_entries : (e : ℕ) (gs : List ℕ) (C : List Entry)
      → entries_on sag ps ns s e gs C ≡ insert_all C (filter_map (placed_entry s ps) (found_vertices sag ps ns s e gs))
  unfolding entries_on insert_all filter filter_map with_vertex
  edge_entries e [] C = refl
  edge_entries e (g ∷ gs) C =
      edge_entries e gs (with_vertex sag ps ns s e g C) ∙ go (found_only sag s e (get_or ns g 0) (point_at ps g))
    where
      rest : List Entry
      rest = filter_map (placed_entry s ps) (found_vertices sag ps ns s e gs)

      spot : (o : Option Spot)
          → insert_all (with_spot g o C) rest
          ≡ insert_all C (elim (map_option {B = Entry} (λ p. record { e = p.e; t = p.t; vertex = g }) o) [ none ↦ rest | some y ↦ y ∷ rest ])
      spot none = refl
      spot (some p) = refl

      go : (b : Bool)
          → insert_all (elim b [ true ↦ with_spot g (spot_of s (point_at ps g)) C | false ↦ C ]) rest
          ≡ insert_all C (filter_map (placed_entry s ps) (cond b (g ∷ found_vertices sag ps ns s e gs) (found_vertices sag ps ns s e gs)))
      go true = spot (spot_of s (point_at ps g))
      go false = refl

  -- the entries with all vertices found have the placed ones inserted
  all_entries : (gs : List ℕ)
      → entries_on sag ps ns s 2 gs (entries_on sag ps ns s 1 gs (entries_on sag ps ns s 0 gs [])) ≡ insert_all [] (filter_map (placed_entry s ps) (all_found sag ps ns s gs))
  all_entries gs =
      let p = placed_entry s ps in
      let G₀ = found_vertices sag ps ns s 0 gs in
      let G₁ = found_vertices sag ps ns s 1 gs in
      let G₂ = found_vertices sag ps ns s 2 gs in
      edge_entries 2 gs (entries_on sag ps ns s 1 gs (entries_on sag ps ns s 0 gs []))
      ∙ ap (λ (C : List Entry). insert_all C (filter_map p G₂)) (edge_entries 1 gs (entries_on sag ps ns s 0 gs []))
      ∙ ap (λ (C : List Entry). insert_all (insert_all C (filter_map p G₁)) (filter_map p G₂)) (edge_entries 0 gs [])
      ∙ ap (λ (C : List Entry). insert_all C (filter_map p G₂)) (sym (insert_append [] (filter_map p G₀) (filter_map p G₁)))
      ∙ sym (insert_append [] (filter_map p G₀ ++ filter_map p G₁) (filter_map p G₂))
      ∙ ap (insert_all []) (sym (filter_map_append p (G₀ ++ G₁) G₂ ∙ ap (λ (l : List Entry). l ++ filter_map p G₂) (filter_map_append p G₀ G₁)))

-- vertices named by their keys, names rising, are distinct
pub keys_distinct : (ps : List Float) (gs : List ℕ) → ((j k : ℕ) → j < k → k < length gs → get_or (names key ps) (get_or gs j 0) 0 < get_or (names key ps) (get_or gs k 0) 0)
    → ((j : ℕ) → j < length gs → get_or gs j 0 < length (names key ps)) → Distinct ps (names key ps) gs
keys_distinct ps gs r b = record { rising = r; named = λ j k hj hk e. cells_name ps (get_or gs j 0) (get_or gs k 0) (b j hj) (b k hk) e }

module _ (sag : Float) (ps : List Float) (ns : List ℕ) (f : Facet) (gs : List ℕ) (d : Distinct ps ns gs) where
  -- The code counts as many points that split a triangle as the definition finds.
  pub found_is : (split_triangle sag (map (loose_of ps ns) gs) f).found ≡ triangle_found sag ps ns (sides_from f) gs
  unfolding split_triangle
  found_is = ap length (found_points sag ps ns f gs d) ∙ found_count_lem sag ps ns (sides_from f) gs

  -- The points that a triangle keeps are those of the entries that the code keeps.
  pub kept_is : (split_triangle sag (map (loose_of ps ns) gs) f).kept ≡ map (placed_of f ps) (triangle_kept sag ps ns (sides_from f) gs)
  unfolding split_triangle triangle_kept
  kept_is =
      let G = all_found sag ps ns (sides_from f) gs in
      let xs = filter_map (placed_entry (sides_from f) ps) G in
      ap
      (λ (placed : List Placed). kept_on placed 0 ++ kept_on placed 1 ++ kept_on placed 2)
      (ap (filter_map (place (sides_of f))) (found_points sag ps ns f gs d) ∙ points_placed f ps G)
      ∙ kept_placed f ps xs (placed_edges f ps G)
      ∙ ap (λ (C : List Entry). map (placed_of f ps) (kept_entries C)) (sym (all_entries sag ps ns (sides_from f) gs))
