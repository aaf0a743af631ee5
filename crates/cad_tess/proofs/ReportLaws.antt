-- Laws of cad_report. Assumes nothing.
use Rattle.std.specs.Prelude.{ℕ, Result}
use mathlib.Core.Path.{◌≡◌, ap, ◌∙◌}
use mathlib.Core.List.{List}
use Prim.Native.Nat.{ℕ}
use lib.Ieee.{Float}
use Rattle.point_rules.specs.Points.{key}
use Rattle.patch_geometry.specs.declared.Aabb.{Aabb}
use Rattle.report_definition.specs.declared.Page.{Page}
use Rattle.report_definition.specs.Report.{left_report, report_of}
use Rattle.report.specs.Bodies.{body_of}
use Rattle.cad_answers.specs.declared.reports.CadReported.{CadReported}
use Rattle.cad_answers.specs.Reports.{cad_reported, cad_left_report, cad_report_answered}

-- what the call leaves
pub report_left : (table : List ℕ) (ps ns : List Float) (is : List ℕ) (box : Aabb) (page : Page) (list W : List ℕ) {b : Aabb} {p : Page} {t : Result Page ℕ} {r : CadReported} {s w : List ℕ} → b ≡ box
    → p ≡ page → left_report t s w ≡ report_of key p (body_of table ps ns is b) list W → r ≡ cad_reported t
    → cad_left_report r s w ≡ cad_report_answered (report_of key page (body_of table ps ns is box) list W)
report_left table ps ns is box page list W {s = s} {w = w} h g e f =
    (λ j. cad_left_report (f j) s w) ∙ ap cad_report_answered (e ∙ (λ j. report_of key (g j) (body_of table ps ns is (h j)) list W))
