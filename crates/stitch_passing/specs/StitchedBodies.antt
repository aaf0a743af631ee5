-- What stitch left of a body that it accepted, as the next call is handed it, is never refused with 24, and with f32 normals with no number from 11 to 24. Assumes nothing.
use Rattle.std.specs.Prelude.{◌≡◌, Bool, true, false, cond, List, [], ◌∷◌, ℕ, zero, suc, ◌*◌, ◌≤◌, ◌<◌, get_or, drop, eqb, Float}
use Rattle.std.proofs.Math.Path.{refl, ap}
use Rattle.std.proofs.Common.{sym, ◌∙◌, arith, eqb-true}
use Rattle.std.proofs.Math.ListN.{length, take}
use Rattle.std.proofs.lemmas.List.{length-map}
use Rattle.std.proofs.Math.Seq.{take_at}
use Rattle.std.proofs.Math.Dec.{T}
use Rattle.std.specs.Float.Ieee.{nan, binary32, fits}
use Rattle.std.specs.Float.{inf, fin}
use Rattle.lists.specs.Lists.{any, written}
use Rattle.lists.specs.Each.{Each, each_then, at_each}
use Rattle.float_steps.specs.Floats.{finite}
use Rattle.float_spans.specs.Small.{Single}
use Rattle.point_rules.specs.Rule.{Rule, names}
use Rattle.point_rules.specs.Points.{clamps}
use Rattle.body_rows.specs.Body.{row_width, Row, Patch, Check, rows_of, table_of, patches_of, all_vertices, all_indices, first_failing, work_needed}
use Rattle.body_rows.specs.Rows.{table_length}
use Rattle.body_rows.specs.Patches.{length_patches}
use Rattle.body_rows.specs.Checks.{clear_first}
use Rattle.body_refusals.specs.TableChecks.{table_checks}
use Rattle.body_refusals.specs.PatchChecks.{patch_checks}
use Rattle.body_refusals.specs.BodyChecks.{before_work, body_checks}
use Rattle.body_checks.specs.Accepted.{CleanBefore, clean_before, before_passed, checks_before}
use Rattle.body_passing.specs.Flat.{Whole, rows_in, positions_in, normals_in, indices_in, body_again, flat_positions, flat_normals, flat_indices}
use Rattle.body_passing.specs.Passing.{Position, Normal, Passing, no_refusal, each_none, positions_unclamped, flat_passes, accepted_passes, accepted_whole}
use Rattle.stitch_definition.specs.StitchedBody.{StitchedBody}
use Rattle.stitch_definition.specs.Slices.{StitchSlices, AfterStitch, stitch_checks, write_body, refuse_stitch, cleared_slices, stitch_or_refuse}
use Rattle.stitch_definition.specs.Stitch.{stitch_body, stitch_of}
use Rattle.stitch_passing.specs.StitchedPatches.{made_many, made_whole, made_positions, made_passing}

-- ---- what stitch left

-- its rows, as many as it was handed
abbrev pub left_table : List ℕ → AfterStitch → List ℕ
left_table table t = take (row_width * length (rows_of table)) t.slices.table

-- its positions, of V vertices
abbrev pub left_positions : AfterStitch → List Float
left_positions t = take (3 * t.vertices) t.slices.positions

-- its normals
abbrev pub left_normals : AfterStitch → List Float
left_normals t = take (3 * t.vertices) t.slices.normals

-- its I indices
abbrev pub left_indices : AfterStitch → List ℕ
left_indices t = take t.indices t.slices.indices

-- a check that does not fail is not the first to fail
not_first : (n : ℕ) (cs : List Check) → (n ≡ 0 → ⊥) → Each (λ c. c.number ≡ n → c.fails ≡ false) cs → first_failing cs ≡ n → ⊥
unfolding first_failing
not_first n [] z e h = z (sym h)
not_first n (c ∷ cs) z e h = go c.fails refl h (not_first n cs z e.1)
  where
    go : (b : Bool) → c.fails ≡ b → cond b c.number (first_failing cs) ≡ n → (first_failing cs ≡ n → ⊥) → ⊥
    go true q k rest = let no : true ≡ false = sym q ∙ e.0 k in let z : ◌≡◌ {A = ℕ} 0 1 = cc in omega arith
    go false q k rest = rest k

-- ---- normals of f32

-- what holds of each normal of a slice holds of each of its patches
patches_normals : (Q : Float → Type 0) (rows : List Row) (ps ns : List Float) (is : List ℕ) → Each Q ns → Each (λ p. Each Q p.normals) (patches_of rows ps ns is)
unfolding patches_of
patches_normals Q [] ps ns is e = tt
patches_normals Q (r ∷ rs) ps ns is e = (
  each_take (3 * r.vertices) ns e,
  patches_normals Q rs (drop (3 * r.vertices) ps) (drop (3 * r.vertices) ns) (drop r.indices is) (each_drop (3 * r.vertices) ns e),
)
  where
    each_take : (n : ℕ) (xs : List Float) → Each Q xs → Each Q (take n xs)
    each_take zero xs e = tt
    each_take (suc n) [] e = tt
    each_take (suc n) (x ∷ xs) e = (e.0, each_take n xs e.1)

    each_drop : (n : ℕ) (xs : List Float) → Each Q xs → Each Q (drop n xs)
    each_drop zero xs e = e
    each_drop (suc n) [] e = tt
    each_drop (suc n) (x ∷ xs) e = each_drop n xs e.1

-- a finite f32
single : (x : Float) → T (fits binary32 x) → Normal x → Single x
unfolding finite
single nan f n = absurd (no_number n)
  where
    no_number : true ≡ false → ⊥
    no_number e = let z : ◌≡◌ {A = ℕ} 0 1 = cc in omega arith
single (inf s) f n = absurd (no_number n)
  where
    no_number : true ≡ false → ⊥
    no_number e = let z : ◌≡◌ {A = ℕ} 0 1 = cc in omega arith
single (fin s m e) f n = record { fit = f; real = tt }

-- all normals of patches that pass are
patches_single : (patches : List Patch) → Each (λ p. Each (λ x. T (fits binary32 x)) p.normals) patches → Each Passing patches → Each (λ p. Each Single p.normals) patches
patches_single [] f c = tt
patches_single (p ∷ ps) f c = (normals p.normals f.0 c.0.normals, patches_single ps f.1 c.1)
  where
    normals : (xs : List Float) → Each (λ x. T (fits binary32 x)) xs → Each Normal xs → Each Single xs
    normals [] f n = tt
    normals (x ∷ xs) f n = (single x f.0 n.0, normals xs f.1 n.1)

-- ---- the call

module _ (rule : Rule) (table : List ℕ) (ps ns : List Float) (is : List ℕ) (sag : Float) (out : StitchSlices) where
  -- the patches as they are handed in
  abbrev before : List Patch
  before = patches_of (rows_of table) ps ns is

  -- the stitched patches
  abbrev after : List Patch
  after = (stitch_body sag (names rule ps) before).patches

  -- the slices with the words of 31 cleared
  abbrev zeros : StitchSlices
  zeros = cleared_slices (rows_of table) out

  -- an accepted body passed the checks, so did the result, and it was written
  pub record Stitched (t : AfterStitch) : Type 0 where
    pub clean : CleanBefore table ps ns is
    pub result : first_failing (stitch_checks (rows_in after) zeros) ≡ 0
    pub body : t ≡ write_body (rows_in after) (stitch_body sag (names rule ps) before) zeros

  abbrev IfStitched : AfterStitch → Type 0
  IfStitched t = t.refusal ≡ 0 → Stitched t

  -- So is every call that refuses nothing.
  pub stitch_done : (stitch_of rule table ps ns is sag out).refusal ≡ 0 → Stitched (stitch_of rule table ps ns is sag out)
  unfolding stitch_of refuse_stitch stitch_or_refuse
  stitch_done =
      first (first_failing (body_checks table ps ns is (length out.work))) (eqb (first_failing (body_checks table ps ns is (length out.work))) 0) refl
      (λ e. clean_before table ps ns is (before_passed table ps ns is (length out.work) e))
    where
      s : StitchedBody
      s = stitch_body sag (names rule ps) before

      second : (n : ℕ) (b : Bool) → eqb n 0 ≡ b → first_failing (stitch_checks (rows_in after) zeros) ≡ n → CleanBefore table ps ns is
          → IfStitched (elim b [ true ↦ write_body (rows_in after) s zeros | false ↦ refuse_stitch n zeros ])
      second n true e m c r = record { clean = c; result = m ∙ eqb-true n 0 e; body = refl }
      second n false e m c r = no_refusal n e r

      first : (n : ℕ) (b : Bool) → eqb n 0 ≡ b → (n ≡ 0 → CleanBefore table ps ns is) → IfStitched (elim b [ true ↦ stitch_or_refuse s zeros | false ↦ refuse_stitch n out ])
      first n true e c r = second (first_failing (stitch_checks (rows_in after) zeros)) (eqb (first_failing (stitch_checks (rows_in after) zeros)) 0) refl refl (c (eqb-true n 0 e)) r
      first n false e c r = no_refusal n e r

  module _ {t : AfterStitch} (a : Stitched t) where
    -- the patches pass
    passing : Each Passing before
    passing = accepted_passes table ps ns is a.clean

    -- and are as their rows say
    whole : Each Whole before
    whole = accepted_whole table ps ns is a.clean

    -- so are the stitched ones
    whole_after : Each Whole after
    whole_after = made_whole sag (names rule ps) before whole passing

    -- a row for each that was handed in
    many_after : length (rows_in after) ≡ length (rows_of table)
    many_after = length-map after (λ (p : Patch). p.row) ∙ made_many sag (names rule ps) before ∙ length_patches (rows_of table) ps ns is

    -- The rows that are left are the stitched body's,
    pub table_left : left_table table t ≡ table_of (rows_in after)
    unfolding write_body written cleared_slices
    table_left =
        let R = table_of (rows_in after) in
        ap (λ (u : AfterStitch). take (row_width * length (rows_of table)) u.slices.table) a.body
        ∙ take_at R (drop (length R) out.table) (row_width * length (rows_of table)) (omega (arith, table_length (rows_in after), many_after))

    -- so are the positions,
    pub positions_left : left_positions t ≡ positions_in after
    unfolding write_body written cleared_slices
    positions_left =
        ap left_positions a.body ∙ take_at (positions_in after) (drop (length (positions_in after)) out.positions) (3 * all_vertices (rows_in after)) (flat_positions after whole_after)

    -- the normals,
    pub normals_left : left_normals t ≡ normals_in after
    unfolding write_body written cleared_slices
    normals_left =
        ap left_normals a.body ∙ take_at (normals_in after) (drop (length (normals_in after)) out.normals) (3 * all_vertices (rows_in after)) (flat_normals after whole_after)

    -- the indices,
    pub indices_left_lem : left_indices t ≡ indices_in after
    unfolding write_body written cleared_slices
    indices_left_lem =
        ap left_indices a.body ∙ take_at (indices_in after) (drop (length (indices_in after)) out.indices) (all_indices (rows_in after)) (flat_indices after whole_after)

    -- and so are the patches.
    pub patches_left : patches_of (rows_of (left_table table t)) (left_positions t) (left_normals t) (left_indices t) ≡ after
    patches_left =
        (λ i. patches_of (rows_of (table_left i)) (positions_left i) (normals_left i) (indices_left_lem i))
        ∙ body_again after whole_after

    -- no position of them clamps
    unclamped_after : any (λ p. any clamps p.positions) after ≡ false
    unclamped_after =
        each_none (λ p. any clamps p.positions) after
        (each_then (λ p. Each Position p.positions) (λ p. any clamps p.positions ≡ false) (λ p e. positions_unclamped p.positions e) after
        (made_positions sag (names rule ps) before whole passing))

  -- New vertices are copies of loose points: what stitch left of a body that it accepted is never refused with 24, whatever work area the next call is lent.
  pub never_24 : let t = stitch_of rule table ps ns is sag out in t.refusal ≡ 0
      → (words : ℕ) → first_failing (body_checks (left_table table t) (left_positions t) (left_normals t) (left_indices t) words) ≡ 24 → ⊥
  unfolding body_checks before_work table_checks patch_checks
  never_24 h words =
      let a = stitch_done h in
      let clear = ap (any (λ (p : Patch). any clamps p.positions)) (patches_left a) ∙ unclamped_after a in
      not_first 24 _ (λ e. omega arith) (
        (λ e. absurd (omega arith)),
        (
          (λ e. absurd (omega arith)),
          (
            (λ e. absurd (omega arith)),
            (
              (λ e. absurd (omega arith)),
              (
                (λ e. absurd (omega arith)),
                ((λ e. absurd (omega arith)), ((λ e. absurd (omega arith)), ((λ e. absurd (omega arith)), ((λ e. clear), ((λ e. absurd (omega arith)), tt))))),
              ),
            ),
          ),
        ),
      )

  module _ (f : (k : ℕ) → k < length ns → T (fits binary32 (get_or ns k nan))) where
    -- What stitch left of a body that it accepted passes the checks 11 to 24, if every normal is one of f32.
    pub left_passes : let t = stitch_of rule table ps ns is sag out in t.refusal ≡ 0
        → first_failing (before_work (left_table table t) (left_positions t) (left_normals t) (left_indices t)) ≡ 0
    unfolding stitch_checks
    left_passes h =
        let a = stitch_done h in
        let c = passing a in
        let singles = patches_single before (patches_normals (λ x. T (fits binary32 x)) (rows_of table) ps ns is (at_each (λ x. T (fits binary32 x)) ns nan f)) c in
        (λ i. first_failing (before_work (table_left a i) (positions_left a i) (normals_left a i) (indices_left_lem a i)))
        ∙ flat_passes after (made_passing sag (names rule ps) before (whole a) c singles) (whole_after a) (omega (arith, many_after a, a.clean.tabled.rows.few))
        (clear_first 32 _ _ a.result).here

    -- So with words enough the next call accepts it.
    pub left_accepted : let t = stitch_of rule table ps ns is sag out in t.refusal ≡ 0 → (words : ℕ) → work_needed (rows_of (left_table table t)) ≤ words
        → first_failing (body_checks (left_table table t) (left_positions t) (left_normals t) (left_indices t) words) ≡ 0
    left_accepted h words enough =
        let t = stitch_of rule table ps ns is sag out in
        checks_before (left_table table t) (left_positions t) (left_normals t) (left_indices t) words (λ e. enough) ∙ left_passes h
