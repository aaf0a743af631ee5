-- The mesh's indices are of its vertices. Assumes nothing.
use mathlib.Core.Bool.{Bool, true, false, cond}
use mathlib.Core.List.{List, [], ◌∷◌, ◌++◌, map, flat_map}
use Prim.Native.Nat.{ℕ, zero, suc, ◌+◌, ◌≤◌, ◌<◌}
use native.Mathlib.Nat.{not-suc-le-zero}
use native.Mathlib.Omega.{arith}
use lib.ListN.{length, get_or, take, drop}
use lib.Dec.{eqb}
use Rattle.lists.specs.Lists.{sum_of}
use Rattle.lists.specs.Any.{each_append}
use Rattle.body_rows.specs.Body.{Row, all_vertices}
use Rattle.edge_uses.specs.RowUses.{Inside, inside_rest, inside_first}
use Rattle.mesh_acceptance.specs.Judged.{accepted_rows}
use Rattle.mesh_layout.specs.Mesh.{Laid, materials_of, run_of, runs_of}
use Rattle.mesh_layout.specs.JudgedRows.{judged_rows, base_after, laid_by}

-- each number is below n
abbrev pub Below : ℕ → List ℕ → Type 0
Below n xs = (k : ℕ) → k < length xs → get_or xs k 0 < n

-- each laid patch's indices are
abbrev pub LaidBelow : ℕ → List Laid → Type 0
LaidBelow n [] = Unit {0}
LaidBelow n (l ∷ ls) = Below n l.indices × LaidBelow n ls

-- none
below_none : (n : ℕ) → Below n []
below_none n k h = absurd (not-suc-le-zero h)

-- two lists
below_both : (n : ℕ) (xs ys : List ℕ) → Below n xs → Below n ys → Below n (xs ++ ys)
below_both n xs ys p q = each_append (λ (x : ℕ). x < n) 0 xs ys p q

-- moved numbers
below_moved : (base v : ℕ) (xs : List ℕ) → Below v xs → Below (base + v) (map (λ i. base + i) xs)
below_moved base v [] h k l = absurd (not-suc-le-zero l)
below_moved base v (x ∷ xs) h zero l = let e = h 0 (omega arith) in omega arith
below_moved base v (x ∷ xs) h (suc k) l = below_moved base v xs (λ j m. h (suc j) (omega arith)) k (omega arith)

-- a higher limit
below_more : (a b : ℕ) (xs : List ℕ) → a ≤ b → Below a xs → Below b xs
below_more a b xs h p k l = let e = p k l in omega arith

-- a run's
run_below : (n : ℕ) (ls : List Laid) (m : ℕ) → LaidBelow n ls → Below n (run_of ls m)
unfolding run_of flat_map
run_below n [] m p = below_none n
run_below n (l ∷ ls) m p = below_both n (cond (eqb l.material m) l.indices []) (run_of ls m) (go (eqb l.material m)) (run_below n ls m p.1)
  where
    go : (b : Bool) → Below n (cond b l.indices [])
    go true = p.0
    go false = below_none n

runs_below_of : (n : ℕ) (ls : List Laid) (ms : List ℕ) → LaidBelow n ls → Below n (flat_map (run_of ls) ms)
unfolding flat_map
runs_below_of n ls [] p = below_none n
runs_below_of n ls (m ∷ ms) p = below_both n (run_of ls m) (flat_map (run_of ls) ms) (run_below n ls m p) (runs_below_of n ls ms p)

-- all runs'
pub runs_below : (n : ℕ) (ls : List Laid) → LaidBelow n ls → Below n (runs_of ls)
unfolding runs_of
runs_below n ls p = runs_below_of n ls (materials_of ls) p

-- the laid patches' indices are below the vertices of the accepted rows
pub laid_below : (base n : ℕ) (ds : List ℕ) (rows : List Row) (is : List ℕ) → Inside rows is → base + all_vertices (accepted_rows ds rows) ≤ n → LaidBelow n (laid_by base (judged_rows ds rows) is)
unfolding laid_by judged_rows base_after accepted_rows all_vertices sum_of
laid_below base n [] rows is i h = tt
laid_below base n (d ∷ ds) [] is i h = tt
laid_below base n (zero ∷ ds) (r ∷ rs) is i h = laid_below base n ds rs (drop r.indices is) (inside_rest r rs is i) h
laid_below base n (suc m ∷ ds) (r ∷ rs) is i h = (
  below_more (base + r.vertices) n (map (λ x. base + x) (take r.indices is)) (omega arith) (below_moved base r.vertices (take r.indices is) (inside_first r rs is i)),
  laid_below (base + r.vertices) n ds rs (drop r.indices is) (inside_rest r rs is i) (omega arith),
)
