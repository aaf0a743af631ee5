-- The slices that turn leaves, read as patches, are the turned body. Assumes nothing.
use Rattle.std.specs.Prelude.{◌≡◌, refl, ℕ, ◌*◌, ◌≤◌, Bool, true, false, cond, eqb, length, take, drop, Float}
use Rattle.std.proofs.Common.{sym, ap, ◌∙◌, arith, length-drop, take_at, drop_at, length-take-le}
use mathlib.Core.List.{List, [], ◌∷◌, map, flat_map}
use Rattle.std.proofs.lemmas.List.{length-map}
use Rattle.std.specs.Float.Ieee.{neg}
use Rattle.lists.specs.Lists.{sum_of}
use Rattle.point_rules.specs.Rule.{Rule, names}
use Rattle.join_definition.specs.Join.{joined}
use Rattle.body_rows.specs.Body.{Row, Patch, rows_of, patches_of, all_vertices, all_indices, first_failing}
use Rattle.body_refusals.specs.BodyChecks.{body_checks}
use Rattle.body_checks.specs.Accepted.{CleanBefore}
use Rattle.turn_definition.specs.Orient.{AfterTurn, walks_of, turn_body, refuse_turn, turn_of}
use Rattle.turn_definition.specs.Reversal.{swapped, length_swapped, turned_patch, turned_body}
use Rattle.turn_walk.specs.Walk.{coloured}

-- a patch that stands where p stood
record Like (p q : Patch) : Type 0 where
  row : q.row ≡ p.row
  positions : q.positions ≡ p.positions
  normals : length q.normals ≡ length p.normals
  indices : length q.indices ≡ length p.indices

turned_like : (c : ℕ) (p : Patch) → Like p (turned_patch c p)
unfolding turned_patch
turned_like c p = go (eqb c coloured)
  where
    go : (b : Bool) → Like p (cond b (record { row = p.row; positions = p.positions; normals = map neg p.normals; indices = swapped p.indices }) p)
    go true = record { row = refl; positions = refl; normals = length-map p.normals neg; indices = length_swapped p.indices }
    go false = record { row = refl; positions = refl; normals = refl; indices = refl }

abbrev normals_of : List Patch → List Float
normals_of ps = flat_map (λ p. p.normals) ps

abbrev indices_of : List Patch → List ℕ
indices_of ps = flat_map (λ p. p.indices) ps

step : (r : Row) (rs : List Row) (ps ns : List Float) (is : List ℕ) (q : Patch) (rest : List Patch) → 3 * r.vertices ≤ length ns → r.indices ≤ length is
    → Like (record { row = r; positions = take (3 * r.vertices) ps; normals = take (3 * r.vertices) ns; indices = take r.indices is }) q
    → patches_of rs (drop (3 * r.vertices) ps) (normals_of rest) (indices_of rest) ≡ rest → patches_of (r ∷ rs) ps (normals_of (q ∷ rest)) (indices_of (q ∷ rest)) ≡ q ∷ rest
unfolding patches_of flat_map
step r rs ps ns is q rest v n l e =
    let a : length q.normals ≡ 3 * r.vertices = l.normals ∙ length-take-le (3 * r.vertices) ns v in
    let b : length q.indices ≡ r.indices = l.indices ∙ length-take-le r.indices is n in
    (λ i. record {
      row = sym l.row i;
      positions = sym l.positions i;
      normals = take_at q.normals (normals_of rest) (3 * r.vertices) a i;
      indices = take_at q.indices (indices_of rest) r.indices b i;
    } ∷ patches_of rs (drop (3 * r.vertices) ps) (drop_at q.normals (normals_of rest) (3 * r.vertices) a i) (drop_at q.indices (indices_of rest) r.indices b i))
    ∙ ap (λ (z : List Patch). q ∷ z) e

same : (p : Patch) → Like p p
same p = record { row = refl; positions = refl; normals = refl; indices = refl }

turned_patches : (cs : List ℕ) (rows : List Row) (ps ns : List Float) (is : List ℕ) → 3 * all_vertices rows ≤ length ns → all_indices rows ≤ length is
    → patches_of rows ps (normals_of (turned_body cs (patches_of rows ps ns is))) (indices_of (turned_body cs (patches_of rows ps ns is))) ≡ turned_body cs (patches_of rows ps ns is)
unfolding flat_map patches_of turned_body all_vertices all_indices sum_of
turned_patches [] [] ps ns is v n = refl
turned_patches (c ∷ cs) [] ps ns is v n = refl
turned_patches [] (r ∷ rs) ps ns is v n =
    step r rs ps ns is _ _ (omega arith) (omega arith) (same _)
    (turned_patches [] rs (drop (3 * r.vertices) ps) (drop (3 * r.vertices) ns) (drop r.indices is) (omega (arith, length-drop (3 * r.vertices) ns)) (omega (arith, length-drop r.indices is)))
turned_patches (c ∷ cs) (r ∷ rs) ps ns is v n =
    step r rs ps ns is _ _ (omega arith) (omega arith) (turned_like c _)
    (turned_patches cs rs (drop (3 * r.vertices) ps) (drop (3 * r.vertices) ns) (drop r.indices is) (omega (arith, length-drop (3 * r.vertices) ns)) (omega (arith, length-drop r.indices is)))

turn_is : (rule : Rule) (table : List ℕ) (ps ns : List Float) (is work : List ℕ) → first_failing (body_checks table ps ns is (length work)) ≡ 0
    → turn_of rule table ps ns is work ≡ turn_body (rows_of table) (patches_of (rows_of table) ps ns is) (walks_of (patches_of (rows_of table) ps ns is) (joined (names rule ps))) work
unfolding turn_of refuse_turn
turn_is rule table ps ns is work h = ap (λ (k : ℕ). pick k) h
  where
    pick : ℕ → AfterTurn
    pick n = elim (eqb n 0) [
      | true ↦ let patches = patches_of (rows_of table) ps ns is in turn_body (rows_of table) patches (walks_of patches (joined (names rule ps))) work
      | false ↦ refuse_turn n ns is work
    ]

pub output_is : (rule : Rule) (table : List ℕ) (ps ns : List Float) (is work : List ℕ) → CleanBefore table ps ns is → first_failing (body_checks table ps ns is (length work)) ≡ 0
    → patches_of (rows_of table) ps (turn_of rule table ps ns is work).normals (turn_of rule table ps ns is work).indices
    ≡ turned_body (walks_of (patches_of (rows_of table) ps ns is) (joined (names rule ps))).colours (patches_of (rows_of table) ps ns is)
unfolding turn_body
output_is rule table ps ns is work c h =
    ap (λ (t : AfterTurn). patches_of (rows_of table) ps t.normals t.indices) (turn_is rule table ps ns is work h)
    ∙ turned_patches (walks_of (patches_of (rows_of table) ps ns is) (joined (names rule ps))).colours (rows_of table) ps ns is (omega (arith, c.tabled.all_normals))
    (omega (arith, c.tabled.all_indices_lem))
