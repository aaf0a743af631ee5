-- The call reads no share of the page so far: pages with the same sums are answered alike. Assumes nothing.
use Rattle.std.specs.Prelude.{◌≡◌, List, ℕ}
use Rattle.std.proofs.Math.Path.{refl}
use Rattle.std.proofs.Common.{sym, ap, ◌∙◌}
use Rattle.point_rules.specs.Rule.{Rule}
use Rattle.report_definition.specs.declared.Page.{Page}
use Rattle.report_definition.specs.Page.{Sums, sums_of, page_with}
use Rattle.report_definition.specs.Report.{Body, bad_page, report_checks, add_or_refuse, report_of}

module _ (rule : Rule) (b : Body) (list work : List ℕ) where
  -- a page is answered as the page of its sums
  by_sums : (page : Page) → report_of rule page b list work ≡ report_of rule (page_with (sums_of page)) b list work
  unfolding report_of add_or_refuse report_checks bad_page
  by_sums page = refl

  -- Two pages that agree but for their share get the same answer, and leave the same face list and work area.
  pub share_unread : (p q : Page) → sums_of p ≡ sums_of q → report_of rule p b list work ≡ report_of rule q b list work
  share_unread p q e = by_sums p ∙ ap (λ (s : Sums). report_of rule (page_with s) b list work) e ∙ sym (by_sums q)
