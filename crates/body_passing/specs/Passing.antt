-- What passes the checks 11 to 24, patch by patch: the patches of an accepted body do, and a body laid flat of patches that do is accepted. Assumes nothing.
use Rattle.std.specs.Prelude.{◌≡◌, refl, Bool, true, false, not, ◌&&◌, ◌||◌, List, [], ◌∷◌, ◌++◌, ℕ, ◌*◌, ◌%◌, ◌≤◌, ◌<◌, length, get_or, ltb, eqb, Float}
use Rattle.std.proofs.Math.Path.{sym}
use Rattle.std.proofs.Common.{ap, ◌∙◌, arith}
use Rattle.std.proofs.Math.Dec.{leb}
use Rattle.std.specs.Float.{nan}
use borrow.Author.Tests.{le-ltb, lt-leb, eq-eqb, eqb-false, leb-false}
use Rattle.lists.specs.Lists.{any}
use Rattle.lists.specs.Any.{any_append, any_none}
use Rattle.lists.specs.Each.{Each, each_then, at_each}
use Rattle.lists.specs.Both.{or_left, or_right}
use Rattle.point_rules.specs.Points.{clamps}
use Rattle.body_rows.specs.Body.{row_width, Row, Patch, rows_of, table_of, patches_of, all_vertices, all_indices, first_failing}
use Rattle.body_rows.specs.Rows.{table_length}
use Rattle.body_rows.specs.Patches.{no_patch, any_row}
use Rattle.body_rows.specs.Checks.{first_next, first_none}
use Rattle.body_refusals.specs.TableChecks.{most_rows, bad_row, bad_bin, too_large, table_checks}
use Rattle.body_refusals.specs.PatchChecks.{bad_indices, patch_checks}
use Rattle.body_refusals.specs.BodyChecks.{before_work}
use Rattle.body_patch_checks.specs.PatchTests.{part_triangle, not_finite}
use Rattle.body_checks.specs.Accepted.{CleanBefore}
use Rattle.body_row_structs.specs.FaceRows.{table_rows}
use Rattle.body_passing.specs.Flat.{Whole, patches_whole, rows_in, positions_in, normals_in, indices_in, patches_again, flat_positions, flat_normals, flat_indices}

-- a position that passes the checks 23 and 24
pub record Position (x : Float) : Type 0 where
  pub real : not_finite x ≡ false
  pub unclamped : clamps x ≡ false

-- a normal that passes 23
abbrev pub Normal : Float → Type 0
Normal x = not_finite x ≡ false

-- a patch that passes each check to 24
pub record Passing (p : Patch) : Type 0 where
  pub bad : bad_row p.row ≡ false
  pub bin : bad_bin p.row ≡ false
  pub part : part_triangle p.row ≡ false
  pub inside : Each (λ i. i < p.row.vertices) p.indices
  pub positions : Each Position p.positions
  pub normals : Each Normal p.normals

-- where nothing is refused, a refusal's number isn't 0
pub no_refusal : {A : Type 0} (n : ℕ) → eqb n 0 ≡ false → n ≡ 0 → A
no_refusal n e h = absurd (eqb-false n 0 e h)

-- ---- patches that pass, laid flat

-- none of some items passes a test
pub each_none : {A : Type 0} (f : A → Bool) (xs : List A) → Each (λ x. f x ≡ false) xs → any f xs ≡ false
unfolding any
each_none f [] e = refl
each_none f (x ∷ xs) e = ap (λ (b : Bool). elim b [ true ↦ true | false ↦ any f xs ]) e.0 ∙ each_none f xs e.1

-- none of the rows of some patches does
rows_none : (f : Row → Bool) (patches : List Patch) → Each (λ p. f p.row ≡ false) patches → any f (rows_in patches) ≡ false
unfolding any
rows_none f [] e = refl
rows_none f (p ∷ ps) e = ap (λ (b : Bool). elim b [ true ↦ true | false ↦ any f (rows_in ps) ]) e.0 ∙ rows_none f ps e.1

-- positions that pass are unclamped
pub positions_unclamped : (xs : List Float) → Each Position xs → any clamps xs ≡ false
positions_unclamped xs e = each_none clamps xs (each_then Position (λ x. clamps x ≡ false) (λ x q. q.unclamped) xs e)

module _ (patches : List Patch) (c : Each Passing patches) (w : Each Whole patches) where
  -- their rows
  abbrev rows : List Row
  rows = rows_in patches

  -- their table
  abbrev table : List ℕ
  table = table_of rows

  -- their positions
  abbrev P : List Float
  P = positions_in patches

  -- their normals
  abbrev N : List Float
  N = normals_in patches

  -- their indices
  abbrev I : List ℕ
  I = indices_in patches

  -- check 11 does not fail
  whole_table : length rows ≤ most_rows → (not (eqb (length table % row_width) 0) || ltb most_rows (length rows)) ≡ false
  whole_table few =
      let e : length table % row_width ≡ 0 = omega (arith, table_length rows) in
      λ i. not (eq-eqb (length table % row_width) 0 e i) || le-ltb most_rows (length rows) few i

  -- nor does 14
  all_there : not (eqb (length P) (3 * all_vertices rows) && eqb (length N) (3 * all_vertices rows) && eqb (length I) (all_indices rows)) ≡ false
  all_there =
      λ i. not (
      eq-eqb (length P) (3 * all_vertices rows) (flat_positions patches w) i
      && eq-eqb (length N) (3 * all_vertices rows) (flat_normals patches w) i
      && eq-eqb (length I) (all_indices rows) (flat_indices patches w) i
      )

  -- nor 22 on a patch
  low_indices : (p : Patch) → Passing p → bad_indices p ≡ false
  unfolding bad_indices
  low_indices p h =
      let v = p.row.vertices in
      each_none (λ i. leb v i) p.indices (each_then (λ i. i < v) (λ i. leb v i ≡ false) (λ i l. lt-leb v i l) p.indices h.inside)

  -- nor 23
  numbers_real : (p : Patch) → Passing p → any not_finite (p.positions ++ p.normals) ≡ false
  numbers_real p h =
      any_append not_finite p.positions p.normals
      ∙ (λ i.
      each_none not_finite p.positions (each_then Position (λ x. not_finite x ≡ false) (λ x q. q.real) p.positions h.positions) i
      || each_none not_finite p.normals h.normals i)

  -- nor 24
  unclamped : (p : Patch) → Passing p → any clamps p.positions ≡ false
  unclamped p h = positions_unclamped p.positions h.positions

  -- No check to 24 fails.
  pub flat_passes : length rows ≤ most_rows → too_large (all_vertices rows) (all_indices rows) ≡ false → first_failing (before_work table P N I) ≡ 0
  unfolding before_work table_checks patch_checks
  flat_passes few small =
      (λ i. first_failing (table_checks table (table_rows rows i) P N I ++ patch_checks (patches_of (table_rows rows i) P N I)))
      ∙ (λ i. first_failing (table_checks table rows P N I ++ patch_checks (patches_again patches w i)))
      ∙ sym (first_next 11 _ (whole_table few))
      ∙ sym (first_next 12 _ (rows_none bad_row patches (each_then Passing (λ p. bad_row p.row ≡ false) (λ p h. h.bad) patches c)))
      ∙ sym (first_next 13 _ small)
      ∙ sym (first_next 14 _ all_there)
      ∙ sym (first_next 15 _ (rows_none bad_bin patches (each_then Passing (λ p. bad_bin p.row ≡ false) (λ p h. h.bin) patches c)))
      ∙ sym (first_next 21 _ (each_none (λ p. part_triangle p.row) patches (each_then Passing (λ p. part_triangle p.row ≡ false) (λ p h. h.part) patches c)))
      ∙ sym (first_next 22 _ (each_none bad_indices patches (each_then Passing (λ p. bad_indices p ≡ false) low_indices patches c)))
      ∙ sym (first_next 23 _ (each_none (λ p. any not_finite (p.positions ++ p.normals)) patches
      (each_then Passing (λ p. any not_finite (p.positions ++ p.normals) ≡ false) numbers_real patches c)))
      ∙ sym (first_next 24 _ (each_none (λ p. any clamps p.positions) patches (each_then Passing (λ p. any clamps p.positions ≡ false) unclamped patches c)))
      ∙ sym first_none

-- ---- the patches of an accepted body

-- no index too high
low_of : (p : Patch) → bad_indices p ≡ false → Each (λ i. i < p.row.vertices) p.indices
unfolding bad_indices
low_of p e =
    let v = p.row.vertices in
    at_each (λ i. i < v) p.indices 0 (λ k h. leb-false v (get_or p.indices k 0) (any_none (λ i. leb v i) p.indices 0 e k h))

-- numbers that are finite, and positions that are unclamped too
positions_of : (p : Patch) → any not_finite (p.positions ++ p.normals) ≡ false → any clamps p.positions ≡ false → Each Position p.positions
positions_of p e u =
    let f = or_left (any not_finite p.positions) (any not_finite p.normals) (sym (any_append not_finite p.positions p.normals) ∙ e) in
    at_each Position p.positions nan (λ k h. record { real = any_none not_finite p.positions nan f k h; unclamped = any_none clamps p.positions nan u k h })

normals_of : (p : Patch) → any not_finite (p.positions ++ p.normals) ≡ false → Each Normal p.normals
normals_of p e =
    let f = or_right (any not_finite p.positions) (any not_finite p.normals) (sym (any_append not_finite p.positions p.normals) ∙ e) in
    at_each Normal p.normals nan (any_none not_finite p.normals nan f)

module _ (table : List ℕ) (ps ns : List Float) (is : List ℕ) (c : CleanBefore table ps ns is) where
  -- The patches of a body that passed the checks to 24 pass each,
  pub accepted_passes : Each Passing (patches_of (rows_of table) ps ns is)
  accepted_passes =
      let rows = rows_of table in
      let patches = patches_of rows ps ns is in
      at_each Passing patches no_patch
      (λ k h.
      let p = get_or patches k no_patch in
      let numbers = any_none (λ q. any not_finite (q.positions ++ q.normals)) patches no_patch c.patched.numbers k h in
      record {
        bad = any_none (λ q. bad_row q.row) patches no_patch (any_row bad_row rows ps ns is ∙ c.tabled.sound) k h;
        bin = any_none (λ q. bad_bin q.row) patches no_patch (any_row bad_bin rows ps ns is ∙ c.tabled.bins) k h;
        part = any_none (λ q. part_triangle q.row) patches no_patch c.patched.threes k h;
        inside = low_of p (any_none bad_indices patches no_patch c.patched.inside k h);
        positions = positions_of p numbers (any_none (λ q. any clamps q.positions) patches no_patch c.patched.unclamped k h);
        normals = normals_of p numbers;
      })

  -- and are as long as their rows say.
  pub accepted_whole : Each Whole (patches_of (rows_of table) ps ns is)
  accepted_whole = patches_whole (rows_of table) ps ns is c.tabled.all_positions c.tabled.all_normals c.tabled.all_indices_lem
