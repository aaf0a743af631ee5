-- The definitions that the theorems of this name in proofs/ speak of. Assumes nothing.
use Rattle.std.specs.Prelude.{◌≡◌, List, map, ℕ, ◌<◌, eqb}
use Rattle.lists.specs.Lists.{count_if}
use Rattle.lists.specs.Members.{Has}
use Rattle.point_rules.specs.Rule.{Rule}
use Rattle.body_rows.specs.Body.{rows_of}
use Rattle.report_definition.specs.Audit.{Entry, entry_of, marks_of}
use Rattle.report_definition.specs.Report.{Body, patches_in}
use Rattle.report_definition.specs.AuditLaws.{Among, Ordered}

-- The entries of a body: highest count first, then by number; each the face number of a row with how often it is marked, above 0; and every mark's face number.
pub record Audited (rule : Rule) (b : Body) (es : List Entry) : Type 0 where
  pub ordered : Ordered es
  pub of_row : (e : Entry) → Among e es → Has e.face (map (λ r. r.face) (rows_of b.table))
  pub counted : (e : Entry) → Among e es → e.count ≡ count_if (eqb e.face) (marks_of rule b.positions (patches_in b))
  pub above : (e : Entry) → Among e es → 0 < e.count
  pub every : (n : ℕ) → Has n (marks_of rule b.positions (patches_in b)) → Among (entry_of (marks_of rule b.positions (patches_in b)) n) es
