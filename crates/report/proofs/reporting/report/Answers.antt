-- `report` meets its contract. Assumes nothing.
use mathlib.Core.Path.{◌≡◌, refl, sym, ◌∙◌}
use Rattle.std.proofs.Common.{rules, Err}
use Rattle.refusals.specs.Laws.{none_failing, number_nonzero}
use Rattle.refusals.specs.Numbers.{number, numbered}
use native.Mathlib.Omega.{arith}
use Rattle.point_rules.specs.Points.{key}
use Rattle.body_checks.specs.Accepted.{passed_rows}
use Rattle.body_checks.specs.Cleared.{clearable}
use Rattle.report_page.specs.Counts.{passed_countable}
use Rattle.report_page.specs.Adding.{page_ready, page_added}
use Rattle.report_audit.specs.Audited.{auditable}
use Rattle.report.specs.Bodies.{body_of}
use Rattle.report.proofs.ReportLaws.{body_passed, refused_body, refused_page, refused_list, added, entries_many, cleared_after, work_long, sum_fits, list_ready, list_told}
use Rattle.report.proofs.reporting.report.Goals as goal

pub returns-in_err-first_failing : goal.returns-in_err-first_failing
returns-in_err-first_failing c =
    let told : numbered c.from_residual.result ≡ Err (number c.in_err-first_failing.field-0.0) = search rules in
    rw told (refused_body _ _ _ _ _ _ _ _ c.in_err-first_failing.ensures (number_nonzero c.in_err-first_failing.field-0.0))

pub clear_words-requires : goal.clear_words-requires
clear_words-requires c = clearable c.args.work.now (body_passed _ _ _ _ _ c.first_failing.ensures (none_failing c.in_ok-first_failing.was)) refl

pub returns-then-bad_page : goal.returns-then-bad_page
returns-then-bad_page c =
    refused_page _ _ _ _ _ _ _ _ (sym c.first_failing.ensures ∙ none_failing c.in_ok-first_failing.was) c.clear_words.ensures c.bad_page.ensures c.if-bad_page.true

pub audit-r-requires : goal.audit-r-requires
audit-r-requires c = auditable c.args.work.now (body_passed _ _ _ _ _ c.first_failing.ensures (none_failing c.in_ok-first_failing.was))

pub overflow_add-listed : goal.overflow_add-listed
overflow_add-listed c = record { fits = sum_fits _ _ _ _ c.args.reference c.args.page c.args.list.now _ (sym c.first_failing.ensures ∙ none_failing c.in_ok-first_failing.was) c.audit-r.ensures (sym c.bad_page.ensures ∙ c.if-bad_page.false) }

pub clear_words-requires-then-list-listed : goal.clear_words-requires-then-list-listed
clear_words-requires-then-list-listed c = clearable c.args.work.now (body_passed _ _ _ _ _ c.first_failing.ensures (none_failing c.in_ok-first_failing.was)) c.audit-r.ensures.long

pub returns-then-list-listed : goal.returns-then-list-listed
returns-then-list-listed c =
    let h = (sym c.first_failing.ensures ∙ none_failing c.in_ok-first_failing.was) in
    let a = c.audit-r.ensures in
    refused_list _ _ _ _ c.args.reference c.args.page c.args.list.now _ h (cleared_after _ _ _ _ c.args.reference c.args.page c.args.list.now _ h a c.clear_words-then-list-listed.ensures) (sym c.bad_page.ensures ∙ c.if-bad_page.false) (entries_many _ _ _ _ c.args.reference c.args.page c.args.list.now _ h a) c.if-list-listed.true

pub entries_at-requires : goal.entries_at-requires
entries_at-requires c =
    let p = (body_passed _ _ _ _ _ c.first_failing.ensures (none_failing c.in_ok-first_failing.was)) in
    record { whole_rows = passed_rows p; indices_few = record { few = omega (arith, p.indices, p.all_indices_lem) } }

pub write_entries-requires : goal.write_entries-requires
write_entries-requires c = list_ready _ _ _ _ c.args.reference c.args.page c.args.list.now _ (sym c.first_failing.ensures ∙ none_failing c.in_ok-first_failing.was) c.audit-r.ensures c.entries_at.ensures c.if-list-listed.false

pub clear_words-requires-2 : goal.clear_words-requires-2
clear_words-requires-2 c = clearable c.args.work.now (body_passed _ _ _ _ _ c.first_failing.ensures (none_failing c.in_ok-first_failing.was)) c.audit-r.ensures.long

pub count_rows-counts-requires : goal.count_rows-counts-requires
count_rows-counts-requires c = passed_countable (body_passed _ _ _ _ _ c.first_failing.ensures (none_failing c.in_ok-first_failing.was))

pub page_with-requires : goal.page_with-requires
page_with-requires c =
    let h = (sym c.first_failing.ensures ∙ none_failing c.in_ok-first_failing.was) in
    page_ready key _ c.args.page (body_of _ _ _ _ c.args.reference) h c.count_rows-counts.ensures c.row_count.ensures (entries_many _ _ _ _ c.args.reference c.args.page c.args.list.now _ h c.audit-r.ensures) (sym c.bad_page.ensures ∙ c.if-bad_page.false)

pub shape_of-work : goal.shape_of-work
shape_of-work c = work_long _ _ _ _ c.args.reference c.args.page c.args.list.now _ (sym c.first_failing.ensures ∙ none_failing c.in_ok-first_failing.was) c.audit-r.ensures c.clear_words-2.ensures

pub returns : goal.returns
returns c =
    let h = (sym c.first_failing.ensures ∙ none_failing c.in_ok-first_failing.was) in
    let a = c.audit-r.ensures in
    let n = entries_many _ _ _ _ c.args.reference c.args.page c.args.list.now _ h a in
    added _ _ _ _ c.args.reference c.args.page c.args.list.now _ h (cleared_after _ _ _ _ c.args.reference c.args.page c.args.list.now _ h a c.clear_words-2.ensures) (sym c.bad_page.ensures ∙ c.if-bad_page.false) n c.if-list-listed.false
    (c.page_with.ensures ∙ page_added key _ c.args.page _ h c.count_rows-counts.ensures c.row_count.ensures n)
    (list_told _ _ _ _ c.args.reference c.args.page c.args.list.now _ h a c.entries_at.ensures c.write_entries.ensures)
