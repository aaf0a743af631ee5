-- The patches from row k on: what they begin with, and what decisions make of them. Assumes nothing.
use Rattle.std.specs.Prelude.{◌≡◌, refl, List, [], ◌∷◌, ℕ, zero, suc, ◌+◌, ◌*◌, ◌≤◌, ◌<◌, length, get_or, drop, Float}
use Rattle.std.proofs.Common.{ap, ◌∙◌, arith, length-drop, drop-drop, drop-cons, length-take-le}
use Rattle.lists.specs.Stretches.{stretch_at}
use Rattle.body_rows.specs.Body.{Row, Patch, rows_of, patches_of}
use Rattle.body_rows.specs.Rows.{row_at, rows_here}
use Rattle.body_rows.specs.Patches.{patch_from}
use Rattle.mesh_acceptance.specs.Judged.{accepted_rows, decisions_in}

-- the patches from row k on, whose vertices start at `base` and whose indices at i
abbrev pub rest_of : List ℕ → List Float → List Float → List ℕ → ℕ → ℕ → ℕ → List Patch
rest_of table ps ns is k base i = patches_of (drop k (rows_of table)) (drop (3 * base) ps) (drop (3 * base) ns) (drop i is)

-- the patches from row k on begin with its own
pub rest_here : (table : List ℕ) (ps ns : List Float) (is : List ℕ) (k base i : ℕ) → k < length (rows_of table)
    → rest_of table ps ns is k base i ≡ patch_from (row_at table k) ps ns is base i ∷ rest_of table ps ns is (k + 1) (base + (row_at table k).vertices) (i + (row_at table k).indices)
unfolding patches_of
rest_here table ps ns is k base i h =
    let r = row_at table k in
    let e : 3 * base + 3 * r.vertices ≡ 3 * (base + r.vertices) = omega arith in
    ap (λ (rows : List Row). patches_of rows (drop (3 * base) ps) (drop (3 * base) ns) (drop i is)) (rows_here table k h)
    ∙ (λ j. patch_from r ps ns is base i ∷ patches_of (drop (k + 1) (rows_of table)) ((drop-drop (3 * r.vertices) (3 * base) ps ∙ ap (λ (n : ℕ). drop n ps) e) j)
    ((drop-drop (3 * r.vertices) (3 * base) ns ∙ ap (λ (n : ℕ). drop n ns) e) j) (drop-drop r.indices i is j))

-- the decisions from row k on begin with its own
pub decisions_here : (table W : List ℕ) (at k : ℕ) → k < length (rows_of table) → at + length (rows_of table) ≤ length W
    → drop k (decisions_in table W at) ≡ get_or W (at + k) 0 ∷ drop (k + 1) (decisions_in table W at)
decisions_here table W at k h room =
    let m = length (rows_of table) in
    let long = length-take-le m (drop at W) (omega (arith, length-drop at W)) in
    let f : suc k ≡ k + 1 = omega arith in
    drop-cons (decisions_in table W at) k 0 (omega arith)
    ∙ (λ j. stretch_at at m W k 0 h j ∷ drop (f j) (decisions_in table W at))

-- the same of rows
pub rows_no : {ds es : List ℕ} {rs ss : List Row} {d : ℕ} {r : Row} → ds ≡ d ∷ es → rs ≡ r ∷ ss → d ≡ 0 → accepted_rows ds rs ≡ accepted_rows es ss
unfolding accepted_rows
rows_no {ds} {es} {rs} {ss} {d} {r} e f z = (λ j. accepted_rows (e j) (f j)) ∙ ap (λ (x : ℕ). accepted_rows (x ∷ es) (r ∷ ss)) z

-- a row with another decision is accepted
pub rows_yes : {ds es : List ℕ} {rs ss : List Row} (d : ℕ) {r : Row} → ds ≡ d ∷ es → rs ≡ r ∷ ss → (d ≡ 0 → ⊥) → accepted_rows ds rs ≡ r ∷ accepted_rows es ss
unfolding accepted_rows
rows_yes zero e f n = absurd (n refl)
rows_yes (suc m) e f n = λ j. accepted_rows (e j) (f j)

-- where no row is left none is accepted
pub rows_none : (ds : List ℕ) → accepted_rows ds [] ≡ []
unfolding accepted_rows
rows_none [] = refl
rows_none (d ∷ ds) = refl
