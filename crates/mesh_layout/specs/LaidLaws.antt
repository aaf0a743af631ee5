-- The mesh made of rows with decisions is the definition's mesh of the accepted patches. Assumes nothing.
use Rattle.std.specs.Prelude.{◌≡◌, refl, Bool, true, false, cond, ℕ, zero, suc, ◌+◌, ◌*◌, ◌≤◌, length, take, drop, eqb, Float}
use Rattle.std.proofs.Common.{sym, ap, ◌∙◌, inl, inr, arith, length-append, length-drop, length-take, length-take-le}
use mathlib.Core.List.{List, [], ◌∷◌, ◌++◌, map, flat_map}
use Rattle.std.proofs.lemmas.List.{length-map}
use Rattle.std.proofs.Math.Dec.{eqb-zero-suc, eqb-suc-suc}
use Rattle.lists.specs.Lists.{sum_of}
use Rattle.body_rows.specs.Body.{Row, patches_of, all_indices}
use Rattle.mesh_acceptance.specs.Acceptance.{Accepted, accepted_indices}
use Rattle.mesh_acceptance.specs.Judged.{accepted_by}
use Rattle.mesh_layout.specs.Mesh.{Laid, laid_from, run_of}
use Rattle.lists.specs.Members.{Has}
use Rattle.mesh_layout.specs.MaterialLaws.{laid_materials}
use Rattle.mesh_layout.specs.JudgedRows.{JudgedRow, judged_rows, base_after, kept_if, numbers_by, laid_by, same_if, run_by, indices_with}

-- the accepted patches laid
pub laid_by_lem : (base : ℕ) (ds : List ℕ) (rows : List Row) (ps ns : List Float) (is : List ℕ) → laid_from base (accepted_by ds (patches_of rows ps ns is)) ≡ laid_by base (judged_rows ds rows) is
unfolding laid_from accepted_by patches_of laid_by judged_rows base_after
laid_by_lem base [] rows ps ns is = refl
laid_by_lem base (d ∷ ds) [] ps ns is = refl
laid_by_lem base (zero ∷ ds) (r ∷ rs) ps ns is = laid_by_lem base ds rs (drop (3 * r.vertices) ps) (drop (3 * r.vertices) ns) (drop r.indices is)
laid_by_lem base (suc m ∷ ds) (r ∷ rs) ps ns is =
    ap (λ (ls : List Laid). record { face = r.face; bin = r.bin; material = m; indices = map (λ i. base + i) (take r.indices is) } ∷ ls)
    (laid_by_lem (base + r.vertices) ds rs (drop (3 * r.vertices) ps) (drop (3 * r.vertices) ns) (drop r.indices is))

-- their positions
pub positions_by : (ds : List ℕ) (rows : List Row) (ps ns : List Float) (is : List ℕ) → flat_map (λ a. a.patch.positions) (accepted_by ds (patches_of rows ps ns is)) ≡ numbers_by (judged_rows ds rows) ps
unfolding flat_map accepted_by patches_of numbers_by kept_if judged_rows
positions_by [] rows ps ns is = refl
positions_by (d ∷ ds) [] ps ns is = refl
positions_by (zero ∷ ds) (r ∷ rs) ps ns is = positions_by ds rs (drop (3 * r.vertices) ps) (drop (3 * r.vertices) ns) (drop r.indices is)
positions_by (suc m ∷ ds) (r ∷ rs) ps ns is =
    ap (λ (xs : List Float). take (3 * r.vertices) ps ++ xs) (positions_by ds rs (drop (3 * r.vertices) ps) (drop (3 * r.vertices) ns) (drop r.indices is))

-- their normals
pub normals_by : (ds : List ℕ) (rows : List Row) (ps ns : List Float) (is : List ℕ) → flat_map (λ a. a.patch.normals) (accepted_by ds (patches_of rows ps ns is)) ≡ numbers_by (judged_rows ds rows) ns
unfolding flat_map accepted_by patches_of numbers_by kept_if judged_rows
normals_by [] rows ps ns is = refl
normals_by (d ∷ ds) [] ps ns is = refl
normals_by (zero ∷ ds) (r ∷ rs) ps ns is = normals_by ds rs (drop (3 * r.vertices) ps) (drop (3 * r.vertices) ns) (drop r.indices is)
normals_by (suc m ∷ ds) (r ∷ rs) ps ns is =
    ap (λ (xs : List Float). take (3 * r.vertices) ns ++ xs) (normals_by ds rs (drop (3 * r.vertices) ps) (drop (3 * r.vertices) ns) (drop r.indices is))

-- a run
pub run_by_lem : (m base : ℕ) (js : List JudgedRow) (is : List ℕ) → run_of (laid_by base js is) m ≡ run_by (suc m) base js is
unfolding run_of flat_map laid_by run_by base_after
run_by_lem m base [] is = refl
run_by_lem m base (j ∷ js) is = go j.decision (run_by_lem m base js (drop j.row.indices is)) (run_by_lem m (base + j.row.vertices) js (drop j.row.indices is))
  where
    go : (d : ℕ) → run_of (laid_by base js (drop j.row.indices is)) m ≡ run_by (suc m) base js (drop j.row.indices is)
        → run_of (laid_by (base + j.row.vertices) js (drop j.row.indices is)) m ≡ run_by (suc m) (base + j.row.vertices) js (drop j.row.indices is)
        → run_of (laid_by base (record { decision = d; row = j.row } ∷ js) is) m ≡ run_by (suc m) base (record { decision = d; row = j.row } ∷ js) is
    go zero p q = p ∙ ap (λ (b : Bool). cond b (map (λ i. base + i) (take j.row.indices is)) [] ++ run_by (suc m) base js (drop j.row.indices is)) (sym (eqb-zero-suc m))
    go (suc d) p q =
        ap (λ (xs : List ℕ). cond (eqb d m) (map (λ i. base + i) (take j.row.indices is)) [] ++ xs) q
        ∙ ap (λ (b : Bool). cond b (map (λ i. base + i) (take j.row.indices is)) [] ++ run_by (suc m) (base + j.row.vertices) js (drop j.row.indices is)) (sym (eqb-suc-suc d m))

-- how many indices rows with decisions have
abbrev pub judged_indices : List JudgedRow → ℕ
judged_indices js = sum_of (λ j. j.row.indices) js

-- a run's length
pub run_long : (wanted base : ℕ) (js : List JudgedRow) (is : List ℕ) → judged_indices js ≤ length is → length (run_by wanted base js is) ≡ indices_with wanted js
unfolding run_by sum_of
run_long wanted base [] is h = refl
run_long wanted base (j ∷ js) is h =
    let xs = map (λ i. base + i) (take j.row.indices is) in
    let e : length xs ≡ j.row.indices = length-map (take j.row.indices is) (λ i. base + i) ∙ length-take-le j.row.indices is (omega arith) in
    let b = base_after base j.row.vertices j.decision in
    length-append (same_if j.decision wanted xs) (run_by wanted b js (drop j.row.indices is))
    ∙ (λ k. go (eqb j.decision wanted) xs e k + run_long wanted b js (drop j.row.indices is) (omega (arith, length-drop j.row.indices is)) k)
  where
    go : (t : Bool) (xs : List ℕ) → length xs ≡ j.row.indices → length (cond t xs []) ≡ cond t j.row.indices 0
    go true xs e = e
    go false xs e = refl

-- the indices of the rows are those of their rows' sums
pub judged_indices_lem : (ds : List ℕ) (rows : List Row) → judged_indices (judged_rows ds rows) ≤ all_indices rows
unfolding judged_rows all_indices sum_of
judged_indices_lem [] rows = omega arith
judged_indices_lem (d ∷ ds) [] = omega arith
judged_indices_lem (d ∷ ds) (r ∷ rs) = let e = judged_indices_lem ds rs in omega arith

-- all indices of the laid patches
pub laid_total : (base : ℕ) (accepted : List Accepted) → sum_of (λ l. length l.indices) (laid_from base accepted) ≡ accepted_indices accepted
unfolding laid_from accepted_indices sum_of
laid_total base [] = refl
laid_total base (a ∷ rest) = λ j. length-map a.patch.indices (λ i. base + i) j + laid_total (base + a.patch.row.vertices) rest j

-- no more indices than the rows have
pub laid_low : (base : ℕ) (js : List JudgedRow) (is : List ℕ) → sum_of (λ l. length l.indices) (laid_by base js is) ≤ judged_indices js
unfolding laid_by sum_of base_after
laid_low base [] is = omega arith
laid_low base (j ∷ js) is = go j.decision (laid_low base js (drop j.row.indices is)) (laid_low (base + j.row.vertices) js (drop j.row.indices is))
  where
    go : (d : ℕ) → sum_of (λ l. length l.indices) (laid_by base js (drop j.row.indices is)) ≤ judged_indices js
        → sum_of (λ l. length l.indices) (laid_by (base + j.row.vertices) js (drop j.row.indices is)) ≤ judged_indices js
        → sum_of (λ l. length l.indices) (laid_by base (record { decision = d; row = j.row } ∷ js) is) ≤ j.row.indices + judged_indices js
    go zero p q = omega arith
    go (suc m) p q = omega (arith, length-map (take j.row.indices is) (λ i. base + i), length-take j.row.indices is)

-- no more patches than rows
pub laid_few : (base : ℕ) (js : List JudgedRow) (is : List ℕ) → length (laid_by base js is) ≤ length js
unfolding laid_by base_after
laid_few base [] is = omega arith
laid_few base (j ∷ js) is = go j.decision (laid_few base js (drop j.row.indices is)) (laid_few (base + j.row.vertices) js (drop j.row.indices is))
  where
    go : (d : ℕ) → length (laid_by base js (drop j.row.indices is)) ≤ length js → length (laid_by (base + j.row.vertices) js (drop j.row.indices is)) ≤ length js
        → length (laid_by base (record { decision = d; row = j.row } ∷ js) is) ≤ suc (length js)
    go zero p q = omega arith
    go (suc m) p q = omega arith

-- a laid patch's material has its decision
pub laid_has : (y base : ℕ) (ds : List ℕ) (rows : List Row) (is : List ℕ) → Has y (laid_materials (laid_by base (judged_rows ds rows) is)) → Has (suc y) ds
unfolding laid_by judged_rows base_after
laid_has y base [] rows is h = h
laid_has y base (d ∷ ds) [] is h = absurd h
laid_has y base (zero ∷ ds) (r ∷ rs) is h = inr (laid_has y base ds rs (drop r.indices is) h)
laid_has y base (suc m ∷ ds) (r ∷ rs) is (inl e) = inl (ap suc e)
laid_has y base (suc m ∷ ds) (r ∷ rs) is (inr h) = inr (laid_has y (base + r.vertices) ds rs (drop r.indices is) h)

-- and a decision that isn't 0 has its patch
pub has_laid : (y base : ℕ) (ds : List ℕ) (rows : List Row) (is : List ℕ) → length ds ≤ length rows → Has (suc y) ds → Has y (laid_materials (laid_by base (judged_rows ds rows) is))
unfolding laid_by judged_rows base_after
has_laid y base [] rows is l h = h
has_laid y base (d ∷ ds) [] is l h = absurd (omega arith)
has_laid y base (zero ∷ ds) (r ∷ rs) is l (inl e) = absurd (omega arith)
has_laid y base (zero ∷ ds) (r ∷ rs) is l (inr h) = has_laid y base ds rs (drop r.indices is) (omega arith) h
has_laid y base (suc m ∷ ds) (r ∷ rs) is l (inl e) = inl (omega arith)
has_laid y base (suc m ∷ ds) (r ∷ rs) is l (inr h) = inr (has_laid y (base + r.vertices) ds rs (drop r.indices is) (omega arith) h)
