-- The volume rule holds. Assumes nothing.
use Rattle.turn_volume_rule.specs.Rule.{PatchGood}
use Rattle.std.specs.Prelude.{◌≡◌, ℕ, ◌*◌, ◌%◌, ◌^◌, ◌≤◌, ◌<◌, Bool, true, false, ◌&&◌, eqb, length, Float}
use Rattle.std.proofs.Common.{sym, ap, ◌∙◌, le_trans, le_refl, eqb-true}
use Rattle.std.proofs.Math.Path.{subst}
use mathlib.Core.List.{List, [], ◌∷◌, ◌++◌, map}
use Rattle.std.proofs.Math.Nat.{le-max_left, le-max_right, max-le}
use native.Mathlib.Omega.{arith}
use Rattle.std.proofs.Math.Dec.{T, lit≤}
use Rattle.std.proofs.Math.ListN.{get_or}
use Rattle.std.specs.Float.Ieee.Fits.{and_i}
use Rattle.std.proofs.lemmas.Bool.{not-false}
use Rattle.lists.specs.Lists.{any, all}
use Rattle.lists.specs.Any.{any_none}
use Rattle.point_rules.specs.Rule.{Rule, names}
use Rattle.join_definition.specs.Join.{joined}
use Rattle.body_rows.specs.Body.{Patch, triangles_of, rows_of, patches_of}
use Rattle.body_refusals.specs.PatchChecks.{bad_indices}
use Rattle.body_patch_checks.specs.PatchTests.{part_triangle, not_finite}
use Rattle.body_checks.specs.Accepted.{CleanBefore, before_passed, clean_before}
use Rattle.patch_geometry.specs.Geometry.{zero64}
use Rattle.turn_definition.specs.Groups.{Group}
use Rattle.turn_definition.specs.Orient.{AfterTurn, walks_of, turn_of}
use Rattle.turn_definition.specs.Inversion.{patch_at, volume_from}
use Rattle.turn_definition.specs.Reversal.{turned_body}
use Rattle.turn_walk.specs.Walk.{unvisited}
use Rattle.turn_volume_rule.specs.Exact.{triangles_in, largest_in, within_bound, left_outward, rule_holds, F32s}
use Rattle.turn_volume_rule.specs.VolumeRule.{KeepsVolume, VolumeRule}
use Rattle.turn_volume_rule.specs.Sums.{RowGood}
use Rattle.turn_volume_rule.proofs.Bound.{within}
use Rattle.turn_volume_rule.specs.Sign as Sign
use Rattle.turn_volume_rule.specs.Sign.{All}
use Rattle.turn_volume_rule.proofs.Outward.{left_outward_lem}
use Rattle.turn_volume_rule.specs.Accepted.{accepted, patch_of, Vertex, vertices, corners, corners_under}
use Rattle.turn_volume_rule.specs.Pairs.{all_map}
use Rattle.turn_volume_rule.specs.Output.{output_is}
use Rattle.turn_volume_rule.specs.Groups.{Taking, GroupOk, groups_ok}
use Rattle.body_rows.specs.Patches.{length_patches}

triangles_some : (is : List ℕ) → length is % 3 ≡ 0 → 0 < length is → 0 < length (triangles_of is)
unfolding triangles_of
triangles_some [] h l = l
triangles_some (a ∷ []) h l = omega arith
triangles_some (a ∷ b ∷ []) h l = omega arith
triangles_some (a ∷ b ∷ c ∷ is) h l = omega arith

triangles_few : (is : List ℕ) → length (triangles_of is) ≤ length is
unfolding triangles_of
triangles_few [] = omega arith
triangles_few (a ∷ []) = omega arith
triangles_few (a ∷ b ∷ []) = omega arith
triangles_few (a ∷ b ∷ c ∷ is) = let h = triangles_few is in omega arith

patch_good : (table : List ℕ) (ps ns : List Float) (is : List ℕ) → F32s ps → CleanBefore table ps ns is
    → (n : ℕ) → n < length (patches_of (rows_of table) ps ns is) → PatchGood (patch_at (patches_of (rows_of table) ps ns is) n)
unfolding patch_at
patch_good table ps ns is f c n l =
    let patches = patches_of (rows_of table) ps ns is in
    let p = patch_at patches n in
    let o = patch_of (rows_of table) ps ns is 786432 f (omega (arith, c.tabled.all_positions)) (omega (arith, c.tabled.all_indices_lem)) c.tabled.indices n l in
    let e = eqb-true (p.row.indices % 3) 0 (not-false (eqb (p.row.indices % 3) 0) (any_none (λ p. part_triangle p.row) patches _ c.patched.threes n l)) in
    record {
      vertices = vertices 786432 p o (any_none bad_indices patches _ c.patched.inside n l) (any_none (λ p. any not_finite (p.positions ++ p.normals)) patches _ c.patched.numbers n l);
      few = o.few;
      whole = triangles_some p.indices (ap (λ (k : ℕ). k % 3) o.count ∙ e);
    }

-- ---- the rows of a group
module _ (patches : List Patch) (good : (n : ℕ) → n < length patches → PatchGood (patch_at patches n)) where
  rows_good : (M : ℕ) (rows : List ℕ) → All (Taking patches) rows → largest_in patches rows ≤ M → All (RowGood M patches) rows
  unfolding largest_in
  rows_good M [] a l = Sign.none
  rows_good M (n ∷ ns) (Sign.more t a) l =
      let p = good n t.row in
      Sign.more (record { corners = corners M (patch_at patches n).positions (patch_at patches n).indices p.vertices (le_trans (le-max_left _ _) l); some = p.whole t.some })
      (rows_good M ns a (le_trans (le-max_right _ _) l))

  rows_under : (rows : List ℕ) → All (Taking patches) rows → largest_in patches rows ≤ 2 ^ 277
  unfolding largest_in
  rows_under [] a = lit≤ tt
  rows_under (n ∷ ns) (Sign.more t a) = max-le (corners_under (patch_at patches n).positions (patch_at patches n).indices (good n t.row).vertices) (rows_under ns a)

  rows_few : (rows : List ℕ) → All (Taking patches) rows → triangles_in patches rows ≤ length rows * 786432
  unfolding triangles_in
  rows_few [] a = omega arith
  rows_few (n ∷ ns) (Sign.more t a) = let h = rows_few ns a in omega (arith, (good n t.row).few, triangles_few (patch_at patches n).indices)

  -- both halves of the rule for one group
  pub group_rule : (final : List ℕ) → length patches ≤ 4096 → (g : Group) → GroupOk patches final g → T (rule_holds patches (turned_body final patches) g)
  unfolding rule_holds
  group_rule final l g o =
      let x = volume_from patches o.cols zero64 o.rows in
      let g' : Group = record { rows = o.rows; colours = map (λ n. get_or o.cols n unvisited) o.rows; volume = x } in
      let t = rows_few o.rows o.taking in
      let w = within patches o.cols o.rows (rows_good (largest_in patches o.rows) o.rows o.taking (le_refl _)) (rows_under o.rows o.taking) (omega (arith, o.few)) in
      subst (λ (z : Group). T (within_bound patches z && left_outward patches (turned_body final patches) z)) (sym o.is)
      (and_i (within_bound patches g') (left_outward patches (turned_body final patches) g') w (left_outward_lem patches o.cols final o.rows x w o.settled))

all_pass : {A : Type 0} (f : A → Bool) (xs : List A) → All (λ x. T (f x)) xs → T (all f xs)
unfolding all
all_pass f [] g = tt
all_pass f (x ∷ xs) (Sign.more h g) = go (all_pass f xs g) (f x) h
  where
    pick : Bool → Bool
    pick b = elim b [ true ↦ all f xs | false ↦ false ]

    go : T (all f xs) → (b : Bool) → T b → T (pick b)
    go r true k = r
    go r false k = absurd k

-- ---- the rule
pub volume_rule : VolumeRule
unfolding VolumeRule KeepsVolume
volume_rule rule table ps ns is work f h =
    let patches = patches_of (rows_of table) ps ns is in
    let w = walks_of patches (joined (names rule ps)) in
    let z = accepted rule table ps ns is work h in
    let c = clean_before table ps ns is (before_passed table ps ns is (length work) z) in
    let l : length patches ≤ 4096 = subst (λ (k : ℕ). k ≤ 4096) (sym (length_patches (rows_of table) ps ns is)) c.tabled.rows.few in
    subst (λ (after : List Patch). T (all (rule_holds patches after) w.groups)) (sym (output_is rule table ps ns is work c z))
    (all_pass (rule_holds patches (turned_body w.colours patches)) w.groups
    (all_map (group_rule patches (patch_good table ps ns is f c) w.colours l) (groups_ok patches (joined (names rule ps))).groups))

-- so a call that leaves what the definition says keeps the rule
pub volume_kept : (rule : Rule) (table : List ℕ) (ps ns : List Float) (is work : List ℕ) (t : AfterTurn) → F32s ps
    → t ≡ turn_of rule table ps ns is work → t.refusal ≡ 0 → KeepsVolume rule table ps ns is t.normals t.indices
unfolding VolumeRule
volume_kept rule table ps ns is work t f e h =
    subst (λ (a : AfterTurn). KeepsVolume rule table ps ns is a.normals a.indices) (sym e)
    (volume_rule rule table ps ns is work f (ap (λ (a : AfterTurn). a.refusal) (sym e) ∙ h))
