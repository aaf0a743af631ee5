-- A claim that says `unfolding evaluation` has every definition of this crate and of those below it computed. Assumes nothing.
use Rattle.std.specs.Prelude.{ℕ}
use Rattle.body_refusals.specs.Evaluation as Checks
use Rattle.edge_uses.specs.Evaluation as Edges
use Rattle.mesh_verdicts.specs.Evaluation as Verdicts
use Rattle.report_definition.specs.Divisor.{euclid, gcd}
use Rattle.report_definition.specs.Page.{share_of, accepted_of, body_sums}
use Rattle.report_definition.specs.Audit.{audit_uses, runs_alike, marked_by, marks_from, entry_of, goes_before, insert_entry, ranked, entries_of, marks_of, audit_of}
use Rattle.report_definition.specs.Report.{list_after, bad_page, report_checks, add_or_refuse, report_of}
use Rattle.report_definition.specs.Pages.{page_from, page_of, faces_of}
use Rattle.report_definition.specs.Calls.{onward, calls, cleared_by}

-- every definition that computes
unfoldable pub evaluation : ℕ
unfolding Checks.evaluation Edges.evaluation Verdicts.evaluation euclid gcd share_of accepted_of body_sums audit_uses runs_alike marked_by marks_from entry_of goes_before insert_entry ranked entries_of marks_of
    audit_of list_after bad_page report_checks add_or_refuse report_of page_from page_of faces_of onward calls cleared_by
evaluation = 0
