-- What the checks 11 to 23 give for each row of an accepted body. Assumes nothing.
use Rattle.std.specs.Prelude.{◌≡◌, refl, List, [], ◌∷◌, ◌++◌, ℕ, zero, suc, ◌+◌, ◌*◌, ◌^◌, ◌≤◌, ◌<◌, Bool, true, false, T, eqb, get_or, length, take, drop, nat_abs, Float}
use Rattle.std.proofs.Common.{sym, ◌∙◌, subst, le_trans, le_of_suc-le-suc, not-suc-le-zero, arith, eqb→eq, lit≤, length-drop, length-append, length-take-le, get_or-take, get_or-drop, leb-false}
use Rattle.std.proofs.Math.Nat.{le-max_left, le-max_right, max-le}
use Rattle.std.proofs.Math.Dec.{leb}
use Rattle.std.proofs.Math.ListN.{get_or-append}
use Rattle.std.proofs.lemmas.Bool.{not-false}
use Rattle.std.specs.Float.{nan, inf, fin, binary32}
use Rattle.std.specs.Float.Ieee.{fits}
use Rattle.std.specs.Float.Ieee.Scale as Scale
use Rattle.float_steps.specs.Floats as Floats
use Rattle.float_steps.specs.Patterns.{test_holds}
use Rattle.lists.specs.Lists.{any, sum_of}
use Rattle.lists.specs.Any.{any_none}
use Rattle.body_rows.specs.Body.{Row, Patch, rows_of, patches_of, all_vertices, all_indices, first_failing}
use Rattle.body_refusals.specs.PatchChecks.{bad_indices}
use Rattle.body_patch_checks.specs.PatchTests.{not_finite}
use Rattle.body_refusals.specs.BodyChecks.{body_checks}
use Rattle.turn_definition.specs.Inversion.{patch_at}
use Rattle.turn_definition.specs.Orient.{AfterTurn, refuse_turn, turn_of, turn_body, walks_of}
use Rattle.point_rules.specs.Rule.{Rule, names}
use Rattle.join_definition.specs.Join.{joined}
use Rattle.turn_volume_rule.specs.Exact.{whole_of, whole_at, largest, largest_of}
use Rattle.float_rounding.specs.Tri.{Coord}
use Rattle.turn_volume_rule.specs.Det.{coord, whole_size, size_under, Corner}
use Rattle.turn_volume_rule.specs.Sums.{Corners}
use Rattle.turn_volume_rule.specs.Pairs.{all_of}
use Rattle.turn_volume_rule.specs.Sign as Sign
use Rattle.turn_volume_rule.specs.Sign.{All}

-- a body that turn does not refuse has passed its checks
pub accepted : (rule : Rule) (table : List ℕ) (ps ns : List Float) (is work : List ℕ) → (turn_of rule table ps ns is work).refusal ≡ 0 → first_failing (body_checks table ps ns is (length work)) ≡ 0
unfolding turn_of refuse_turn
accepted rule table ps ns is work h =
    let n = first_failing (body_checks table ps ns is (length work)) in
    let patches = patches_of (rows_of table) ps ns is in
    go n (turn_body (rows_of table) patches (walks_of patches (joined (names rule ps))) work) (refuse_turn n ns is work) refl (eqb n 0) (eqb→eq n 0) h
  where
    pick : AfterTurn → AfterTurn → Bool → AfterTurn
    pick x y b = elim b [ true ↦ x | false ↦ y ]

    go : (n : ℕ) (x y : AfterTurn) → y.refusal ≡ n → (b : Bool) → (T b → n ≡ 0) → (pick x y b).refusal ≡ 0 → n ≡ 0
    go n x y q true k e = k tt
    go n x y q false k e = sym q ∙ e

-- ---- a row's patch
pub record PatchOf (most : ℕ) (p : Patch) : Type 0 where
  pub coordinates : length p.positions ≡ 3 * p.row.vertices
  pub count : length p.indices ≡ p.row.indices
  pub few : length p.indices ≤ most
  pub fit : (k : ℕ) → k < length p.positions → T (fits binary32 (get_or p.positions k nan))

take_fits : (n : ℕ) (ps : List Float) → ((k : ℕ) → k < length ps → T (fits binary32 (get_or ps k nan))) → n ≤ length ps
    → (k : ℕ) → k < length (take n ps) → T (fits binary32 (get_or (take n ps) k nan))
take_fits n ps f l k h =
    let j : k < n = omega (arith, length-take-le n ps l) in
    subst (λ (x : Float). T (fits binary32 x)) (sym (get_or-take n ps k nan j)) (f k (omega arith))

drop_fits : (n : ℕ) (ps : List Float) → ((k : ℕ) → k < length ps → T (fits binary32 (get_or ps k nan)))
    → (k : ℕ) → k < length (drop n ps) → T (fits binary32 (get_or (drop n ps) k nan))
drop_fits n ps f k h = subst (λ (x : Float). T (fits binary32 x)) (sym (get_or-drop n ps k nan)) (f (n + k) (omega (arith, length-drop n ps)))

pub patch_of : (rows : List Row) (ps ns : List Float) (is : List ℕ) (most : ℕ) → ((k : ℕ) → k < length ps → T (fits binary32 (get_or ps k nan))) → 3 * all_vertices rows ≤ length ps
    → all_indices rows ≤ length is → all_indices rows ≤ most
    → (n : ℕ) → n < length (patches_of rows ps ns is) → PatchOf most (patch_at (patches_of rows ps ns is) n)
unfolding patches_of patch_at all_vertices all_indices sum_of
patch_of [] ps ns is most f v i m n h = absurd (not-suc-le-zero h)
patch_of (r ∷ rs) ps ns is most f v i m zero h =
    let l : 3 * r.vertices ≤ length ps = omega arith in
    record {
      coordinates = length-take-le (3 * r.vertices) ps l;
      count = length-take-le r.indices is (omega arith);
      few = omega (arith, length-take-le r.indices is (omega arith));
      fit = take_fits (3 * r.vertices) ps f l;
    }
patch_of (r ∷ rs) ps ns is most f v i m (suc n) h =
    patch_of rs (drop (3 * r.vertices) ps) (drop (3 * r.vertices) ns) (drop r.indices is) most (drop_fits (3 * r.vertices) ps f)
    (omega (arith, length-drop (3 * r.vertices) ps)) (omega (arith, length-drop r.indices is)) (omega arith) n (le_of_suc-le-suc h)

-- ---- its vertices
pub record Number (x : Float) : Type 0 where
  pub fits : T (fits binary32 x)
  pub finite : T (Scale.finite x)

pub record Vertex (ps : List Float) (i : ℕ) : Type 0 where
  pub x : Number (get_or ps (3 * i) nan)
  pub y : Number (get_or ps (3 * i + 1) nan)
  pub z : Number (get_or ps (3 * i + 2) nan)

-- the kit's test of a finite value says the same
finite_is : (x : Float) → Floats.finite x ≡ true → T (Scale.finite x)
unfolding Floats.finite
finite_is nan h = test_holds false h
finite_is (inf s) h = test_holds false h
finite_is (fin s m e) h = tt

module _ (most : ℕ) (p : Patch) (o : PatchOf most p) (inside : bad_indices p ≡ false) (numbers : any not_finite (p.positions ++ p.normals) ≡ false) where
  number : (k : ℕ) → k < length p.positions → Number (get_or p.positions k nan)
  number k h = record {
    fits = o.fit k h;
    finite = finite_is (get_or p.positions k nan)
        (not-false (Floats.finite (get_or p.positions k nan))
        (subst (λ (x : Float). not_finite x ≡ false) (get_or-append p.positions p.normals nan k h)
        (any_none not_finite (p.positions ++ p.normals) nan numbers k (omega (arith, length-append p.positions p.normals)))));
  }

  vertex : (i : ℕ) → leb p.row.vertices i ≡ false → Vertex p.positions i
  vertex i h =
      let l = leb-false p.row.vertices i h in
      let c = o.coordinates in
      record { x = number (3 * i) (omega arith); y = number (3 * i + 1) (omega arith); z = number (3 * i + 2) (omega arith) }

  pub vertices : All (Vertex p.positions) p.indices
  unfolding bad_indices
  vertices = all_of p.indices 0 (λ k h. vertex (get_or p.indices k 0) (any_none (λ i. leb p.row.vertices i) p.indices 0 inside k h))

-- ---- the largest coordinate
number_coord : (M : ℕ) (x : Float) → Number x → nat_abs (whole_of 149 x) ≤ M → Coord M x
number_coord M x n l = coord M x n.fits n.finite (subst (λ (k : ℕ). k ≤ M) (whole_size x) l)

number_under : (x : Float) → Number x → nat_abs (whole_of 149 x) ≤ 2 ^ 277
number_under x n = subst (λ (k : ℕ). k ≤ 2 ^ 277) (sym (whole_size x)) (size_under x n.fits n.finite)

pub corner : (M : ℕ) (ps : List Float) (i : ℕ) → Vertex ps i → largest (whole_at ps i) ≤ M → Corner M ps i
unfolding largest whole_at
corner M ps i c l = record {
  x = number_coord M (get_or ps (3 * i) nan) c.x (le_trans (le-max_left _ _) l);
  y = number_coord M (get_or ps (3 * i + 1) nan) c.y (le_trans (le-max_left _ _) (le_trans (le-max_right _ _) l));
  z = number_coord M (get_or ps (3 * i + 2) nan) c.z (le_trans (le-max_right _ _) (le_trans (le-max_right _ _) l));
}

pub corner_under : (ps : List Float) (i : ℕ) → Vertex ps i → largest (whole_at ps i) ≤ 2 ^ 277
unfolding largest whole_at
corner_under ps i c = max-le (number_under _ c.x) (max-le (number_under _ c.y) (number_under _ c.z))

pub corners : (M : ℕ) (ps : List Float) (is : List ℕ) → All (Vertex ps) is → largest_of ps is ≤ M → Corners M ps is
unfolding largest_of
corners M ps [] g l = Sign.none
corners M ps (i ∷ is) (Sign.more c g) l = Sign.more (corner M ps i c (le_trans (le-max_left _ _) l)) (corners M ps is g (le_trans (le-max_right _ _) l))

pub corners_under : (ps : List Float) (is : List ℕ) → All (Vertex ps) is → largest_of ps is ≤ 2 ^ 277
unfolding largest_of
corners_under ps [] g = lit≤ tt
corners_under ps (i ∷ is) (Sign.more c g) = max-le (corner_under ps i c) (corners_under ps is g)
