-- Laws of closing: the result of a body is refused, written or copied. Assumes nothing.
use Rattle.std.specs.Prelude.{Result, Ok, Err}
use mathlib.Core.Path.{◌≡◌, refl, sym, ap, ◌∙◌, subst}
use mathlib.Core.Bool.{true, false}
use mathlib.Core.List.{List}
use Prim.Native.Nat.{ℕ, ◌+◌, ◌*◌, ◌<◌, ◌≤◌}
use native.Mathlib.Omega.{arith}
use lib.Dec.{T}
use lib.ListN.{length, get_or}
use lib.Ieee.{Float, nan, inf, fin, fits, binary32}
use lib.Ieee.Scale as Scale
use Rattle.float_steps.specs.Floats as Floats
use Rattle.float_steps.specs.Patterns.{test_holds}
use Rattle.float_spans.specs.Small.{Single}
use Rattle.lists.specs.Lists.{written}
use Rattle.refusals.specs.declared.Refusal.{Refusal}
use Rattle.refusals.specs.Numbers.{number, numbered}
use Rattle.stitch_definition.specs.declared.Sizes.{Sizes}
use Rattle.point_rules.specs.Rule.{names}
use Rattle.point_rules.specs.Points.{key}
use Rattle.body_rows.specs.Body.{rows_of, patches_of, first_failing}
use Rattle.body_checks.specs.Accepted.{passed_rows}
use Rattle.stitch_splits.specs.declared.finder.Finder.{Finder}
use Rattle.stitch_definition.specs.StitchedBody.{StitchedBody, stitched_body}
use Rattle.stitch_copy.specs.Copied.{BodyRoom, BodyCopied, flat_rows, flat_positions, flat_normals, flat_indices, flat_table}
use Rattle.stitch_count.specs.Counting.{BodyCounted}
use Rattle.stitch_count.specs.Prepared.{Preparable, Prepared}
use Rattle.stitch_result_checks.specs.Results.{result_checks, ResultFits, result_fits}
use Rattle.stitch_result_checks.specs.Stitched.{StitchReady, BodyStitched, result_refused, result_written, words_needed}
use Rattle.stitch_write.specs.Writing.{BodyWritable, BodyWritten}
use Rattle.stitch_copy.specs.Put.{Puttable}
use Rattle.stitch_accepted.proofs.OpenLaws.{
  vertices_are,
  indices_many,
  rows_many,
  splits_is,
  rows_there,
  writable,
  table_is,
  positions_is,
  normals_is,
  indices_is,
  rest_written,
  rest_counted,
  kept_is,
  kept_there,
  failing_same,
}

-- a result that passed its checks fits
pub sizes_fit : {vertices indices m r p n i refusal : ℕ} → refusal ≡ first_failing (result_checks vertices indices m r p n i) → refusal ≡ 0 → ResultFits vertices indices m r p n i
sizes_fit {vertices} {indices} {m} {r} {p} {n} {i} e z = result_fits vertices indices m r p n i (sym e ∙ z)

-- the kit's test of a finite value says the same
finite_is : (x : Float) → Floats.finite x ≡ true → T (Scale.finite x)
unfolding Floats.finite
finite_is nan h = test_holds false h
finite_is (inf s) h = test_holds false h
finite_is (fin s m e) h = tt

module _ {table : List ℕ} {ps ns : List Float} {is W : List ℕ} {v m : ℕ} (g : StitchReady table ps ns is W v m) where
  all_positions : length ps ≡ 3 * v
  all_positions = omega (arith, g.passed.all_positions, g.vertices)

  pub all_normals : length ns ≡ 3 * v
  all_normals = omega (arith, g.passed.all_normals, g.vertices)

  -- the rows are few
  pub rows_few : m ≤ 4096
  rows_few = omega (arith, g.rows, g.passed.rows)

  -- a coordinate is finite by check 23
  coordinate : ((k : ℕ) → T (fits binary32 (get_or ps k nan))) → (k : ℕ) → k < 3 * v → Single (get_or ps k nan)
  coordinate fit k l = record { fit = fit k; real = finite_is (get_or ps k nan) (g.passed.finite_positions k (omega (arith, all_positions))) }

  -- the work area can be made ready: of a slice of f32 the language knows that each value is one
  pub preparable : ((k : ℕ) → T (fits binary32 (get_or ps k nan))) → Preparable table ps is W v m
  preparable fit =
      record {
        area =
            record {
              body =
                  record {
                    rows = passed_rows g.passed;
                    count = sym g.rows;
                    vertices = sym g.vertices;
                    few_vertices = omega (arith, g.vertices, g.passed.vertices);
                    all_positions = all_positions;
                    all_indices_lem = g.passed.all_indices_lem;
                    few_indices = g.passed.indices;
                    threes = g.passed.threes;
                    inside = g.passed.inside;
                    room = omega (arith, words_needed g, g.passed.enough);
                  };
              enough = omega (arith, words_needed g, g.passed.enough);
            };
        points = λ i l.
            record { x = coordinate fit (3 * i) (omega arith); y = coordinate fit (3 * i + 1) (omega arith); z = coordinate fit (3 * i + 2) (omega arith) };
      }

  module _ {sag : Float} {E X : List ℕ} {f : Finder} {found kept refusal : ℕ} (p : Prepared table ps is sag v m W E f)
      (c : BodyCounted table ps is f.sag f.v f.list f.count f.at f.ts f.flags E X found kept) (R : List ℕ) (P N : List Float) (I : List ℕ)
      (e : refusal ≡ first_failing (result_checks (v + kept) (length is + 3 * kept) m (length R) (length P) (length N) (length I))) where
    -- the result is refused
    pub open_refused : (refusal ≡ 0 → ⊥)
        → BodyStitched (stitched_body sag (names key ps) (patches_of (rows_of table) ps ns is)) R R P P N N I I (16 * length is + 16 * m + 4 * v) W X (Err refusal)
    open_refused n =
        record {
          same = λ work.
              result_refused (stitched_body sag (names key ps) (patches_of (rows_of table) ps ns is)) (rows_there ns p) R P N I work (vertices_are ns p) (indices_many ns p)
              (g.rows ∙ rows_many ns p) (e ∙ failing_same ns p c m (length R) (length P) (length N) (length I)) n;
          rest = rest_counted ns p c;
        }

    pub open_fits : refusal ≡ 0 → ResultFits (v + kept) (length is + 3 * kept) m (length R) (length P) (length N) (length I)
    open_fits z = result_fits (v + kept) (length is + 3 * kept) m (length R) (length P) (length N) (length I) (sym e ∙ z)

    -- the result can be written
    pub open_writable : length X ≡ length E → refusal ≡ 0
        → BodyWritable table ps ns is f.sag f.beyond f.v f.list f.count f.at f.ts f.flags f.order f.boxes f.top X R P N I
    open_writable l z =
        let r = open_fits z in
        writable ns p c l all_normals
        (record {
          vertices = r.vertices;
          indices = r.indices;
          room_rows = omega
              (arith, r.room_rows, g.rows);
          room_positions = r.room_positions;
          room_normals = r.room_normals;
          room_indices = r.room_indices;
        })

    -- or copied, if there is no new vertex
    pub open_puttable : length X ≡ length E → refusal ≡ 0
        → Puttable table ps ns is f kept X R P N I
    open_puttable l z = let r = open_fits z in record { writable = open_writable l z; kept_is = sym (kept_there ns p c r.vertices r.indices) }

    -- it was
    pub open_done : {F R' : List ℕ} {P' N' : List Float} {I' : List ℕ} → length X ≡ length E → refusal ≡ 0
        → BodyWritten table ps ns is f.sag f.v f.list f.count f.at f.ts f.flags X F R R' P P' N N' I I'
        → BodyStitched (stitched_body sag (names key ps) (patches_of (rows_of table) ps ns is)) R R' P P' N N' I I' (16 * length is + 16 * m + 4 * v) W F
        (Ok (record { vertices = v + kept; indices = length is + 3 * kept; splits = found }))
    open_done {F} {R'} {P'} {N'} {I'} l z d =
        let r = open_fits z in
        let k = kept_is ns p c r.vertices r.indices in
        record {
          same = λ work.
              result_written (stitched_body sag (names key ps) (patches_of (rows_of table) ps ns is)) (rows_there ns p) R P N I work
              (ap (λ (x : ℕ). v + x) k ∙ vertices_are ns p) (ap (λ (x : ℕ). length is + 3 * x) k ∙ indices_many ns p)
              (g.rows ∙ rows_many ns p) e z (splits_is ns p c r.vertices r.indices)
              (table_is ns p c l all_normals d) (positions_is ns p c l all_normals d) (normals_is ns p c l all_normals d) (indices_is ns p c l all_normals d);
          rest = rest_written ns p c l all_normals d;
        }

  -- ---- a sag not above 0

  module _ {refusal : ℕ} (R : List ℕ) (P N : List Float) (I : List ℕ) (e : refusal ≡ first_failing (result_checks v (length is) m (length R) (length P) (length N) (length I))) where
    -- the copy is refused
    pub nothing_refused : (refusal ≡ 0 → ⊥)
        → BodyStitched (record { patches = patches_of (rows_of table) ps ns is; splits = 0 }) R R P P N N I I (16 * length is + 16 * m + 4 * v) W W (Err refusal)
    nothing_refused n =
        record {
          same = λ work. result_refused (record { patches = patches_of (rows_of table) ps ns is; splits = 0 }) (flat_rows (rows_of table) ps ns is) R P N I work g.vertices g.passed.all_indices_lem
              g.rows e n;
          rest = refl;
        }

    pub nothing_fits : refusal ≡ 0 → ResultFits v (length is) m (length R) (length P) (length N) (length I)
    nothing_fits z = result_fits v (length is) m (length R) (length P) (length N) (length I) (sym e ∙ z)

    -- it can be made
    pub copy_room : refusal ≡ 0 → BodyRoom table ps ns is R P N I
    copy_room z =
        let r = nothing_fits z in
        record {
          rows = omega (arith, r.room_rows, g.passed.whole, g.rows);
          positions = omega (arith, r.room_positions, all_positions);
          normals = omega (arith, r.room_normals, all_normals);
          indices = r.room_indices;
        }

    -- it was
    pub nothing_done : {R' : List ℕ} {P' N' : List Float} {I' : List ℕ} → refusal ≡ 0 → BodyCopied table ps ns is R P N I R' P' N' I'
        → BodyStitched (record { patches = patches_of (rows_of table) ps ns is; splits = 0 }) R R' P P' N N' I I' (16 * length is + 16 * m + 4 * v) W W
        (Ok (record { vertices = v; indices = length is; splits = 0 }))
    nothing_done {R'} {P'} {N'} {I'} z d =
        record {
          same = λ work.
              result_written (record { patches = patches_of (rows_of table) ps ns is; splits = 0 }) (flat_rows (rows_of table) ps ns is) R P N I work g.vertices g.passed.all_indices_lem
              g.rows e z refl
              (d.rows ∙ ap (λ (xs : List ℕ). written xs R) (sym (flat_table table g.passed.whole)))
              (d.positions ∙ ap (λ (xs : List Float). written xs P) (sym (flat_positions (rows_of table) ps ns is g.passed.all_positions)))
              (d.normals ∙ ap (λ (xs : List Float). written xs N) (sym (flat_normals (rows_of table) ps ns is g.passed.all_normals)))
              (d.indices ∙ ap (λ (xs : List ℕ). written xs I) (sym (flat_indices (rows_of table) ps ns is g.passed.all_indices_lem)));
          rest = refl;
        }

-- a refusal passed on is told by its number
pub body_told : {s : StitchedBody} {R R' : List ℕ} {P P' N N' : List Float} {I I' : List ℕ} {needed : ℕ} {W E : List ℕ} {r : Result Sizes Refusal} {e : Refusal} → r ≡ Err e
    → BodyStitched s R R' P P' N N' I I' needed W E (Err (number e)) → BodyStitched s R R' P P' N N' I I' needed W E (numbered r)
body_told {s} {R} {R'} {P} {P'} {N} {N'} {I} {I'} {needed} {W} {E} h b = subst (λ (a : Result Sizes ℕ). BodyStitched s R R' P P' N N' I I' needed W E a) (sym (ap numbered h)) b
