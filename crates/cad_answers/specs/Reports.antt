-- What cad_report answers and leaves. Assumes nothing.
use Rattle.std.specs.Prelude.{List, ℕ, Result, Ok, Err}
use Rattle.report_definition.specs.declared.Page.{Page}
use Rattle.report_definition.specs.Report.{AfterReport}
use Rattle.cad_answers.specs.declared.reports.CadReported.{CadReported}

-- the page, or the refusal's number and zeros
abbrev pub cad_reported : Result Page ℕ → CadReported
cad_reported (Ok p) =
    record {
      refusal = 0;
      bodies = p.bodies;
      accepted = p.accepted;
      failed = p.failed;
      triangles = p.triangles;
      vertices = p.vertices;
      empty = p.empty;
      upstream = p.upstream;
      escaped = p.escaped;
      listed = p.listed;
      share_accepted = p.share_accepted;
      share_faces = p.share_faces;
    }
cad_reported (Err n) =
    record {
      refusal = n;
      bodies = 0;
      accepted = 0;
      failed = 0;
      triangles = 0;
      vertices = 0;
      empty = 0;
      upstream = 0;
      escaped = 0;
      listed = 0;
      share_accepted = 0;
      share_faces = 0;
    }

-- the page so far as it is handed over: its share, which is not read, is the empty page's
abbrev pub page_given : ℕ → ℕ → ℕ → ℕ → ℕ → ℕ → ℕ → ℕ → ℕ → Page
page_given bodies accepted failed triangles vertices empty upstream escaped listed =
    record {
      bodies = bodies;
      accepted = accepted;
      failed = failed;
      triangles = triangles;
      vertices = vertices;
      empty = empty;
      upstream = upstream;
      escaped = escaped;
      listed = listed;
      share_accepted = 1;
      share_faces = 1;
    }

-- cad_report's answer, and what the lent face list and work area hold
pub record CadLeftReport : Type 0 where
  pub answer : CadReported
  pub list : List ℕ
  pub work : List ℕ

-- the answer with them
abbrev pub cad_left_report : CadReported → List ℕ → List ℕ → CadLeftReport
cad_left_report r list work = record { answer = r; list = list; work = work }

-- what the definition says of the call, with the answer as cad_report gives it
abbrev pub cad_report_answered : AfterReport → CadLeftReport
cad_report_answered t = cad_left_report (cad_reported t.answer) t.list t.work
