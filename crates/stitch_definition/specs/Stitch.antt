-- Stitching: the sag decides whether a body is stitched, and the call. Assumes nothing.
use Rattle.std.specs.Prelude.{true, false, List, ℕ, length, eqb, Float}
use Rattle.std.specs.Float.Ieee.{lt}
use Rattle.point_rules.specs.Rule.{Rule, names}
use Rattle.body_rows.specs.Body.{Patch, rows_of, patches_of, first_failing}
use Rattle.body_refusals.specs.BodyChecks.{body_checks}
use Rattle.patch_geometry.specs.Geometry.{zero64}
use Rattle.point_rules.specs.Points.{key}
use Rattle.stitch_definition.specs.StitchedBody.{StitchedBody, stitched_body}
use Rattle.stitch_definition.specs.Slices.{StitchSlices, AfterStitch, refuse_stitch, cleared_slices, stitch_or_refuse}

-- A sag not above 0 splits nothing; the body is copied.
unfoldable pub stitch_body : Float → List ℕ → List Patch → StitchedBody
stitch_body sag ns patches = elim (lt zero64 sag) [ true ↦ stitched_body sag ns patches | false ↦ record { patches = patches; splits = 0 } ]

-- ---- the call

-- an accepted body stitched, by the definition
abbrev pub stitch_accepted : List ℕ → List Float → List Float → List ℕ → Float → StitchSlices → AfterStitch
stitch_accepted table ps ns is sag out = stitch_or_refuse (stitch_body sag (names key ps) (patches_of (rows_of table) ps ns is)) (cleared_slices (rows_of table) out)

-- stitch: table, positions, normals and indices as they are lent, the sag, and the slices to write, points joined by a rule
unfoldable pub stitch_of : Rule → List ℕ → List Float → List Float → List ℕ → Float → StitchSlices → AfterStitch
stitch_of rule table ps ns is sag out =
    let n = first_failing (body_checks table ps ns is (length out.work)) in
    elim (eqb n 0) [
      | true ↦ stitch_or_refuse (stitch_body sag (names rule ps) (patches_of (rows_of table) ps ns is)) (cleared_slices (rows_of table) out)
      | false ↦ refuse_stitch n out
    ]
