-- A body added to a page: what it asks, and that what the rows count is what the body adds. Assumes nothing.
use Rattle.std.specs.Prelude.{◌≡◌, false, List, [], ℕ, ◌-◌, ◌≤◌, length}
use Rattle.std.proofs.Common.{sym, ap, ◌∙◌, subst, arith}
use Rattle.point_rules.specs.Rule.{Rule}
use Rattle.body_rows.specs.Body.{Patch, rows_of}
use Rattle.body_rows.specs.Patches.{shapes, length_patches}
use Rattle.patch_geometry.specs.declared.Aabb.{Aabb}
use Rattle.report_definition.specs.declared.Page.{Page}
use Rattle.report_definition.specs.Page.{Sums, plus, sums_of, page_with, body_sums}
use Rattle.report_definition.specs.Report.{Body, patches_in, faces_of_body, with_body, bad_page}
use Rattle.report_definition.specs.Pages.{sums_in}
use Rattle.report_definition.specs.Limits.{Passes, Within, body_within}
use Rattle.report_page.specs.declared.counts.RowCounts.{RowCounts}
use Rattle.report_page.specs.Counts.{counts_of}
use Rattle.report_page.specs.BodyLaws.{sums_bare, rows_both}

-- what a body adds by what its rows count, how many they are, and how many of its faces are listed
abbrev pub sums_with : RowCounts → ℕ → ℕ → Sums
sums_with c faces listed =
    record {
      bodies = 1;
      accepted = c.accepted;
      failed = faces - c.accepted;
      triangles = c.triangles;
      vertices = c.vertices;
      empty = c.empty;
      upstream = c.upstream;
      escaped = c.escaped;
      listed = listed;
    }

-- what adding a body asks: a page that 67 accepts, and a body within the limits
pub record PageReady (p : Page) (c : RowCounts) (faces listed : ℕ) : Type 0 where
  pub good : bad_page p ≡ false
  pub few : c.accepted ≤ faces
  pub within : Within (sums_with c faces listed)

-- ---- the body that the rows count

-- What the rows count is what the body adds.
pub sums_counted : (box : Aabb) (patches : List Patch) (listed : ℕ) {c : RowCounts} {faces : ℕ} → c ≡ counts_of (body_sums box patches 0) → faces ≡ length patches
    → sums_with c faces listed ≡ body_sums box patches listed
unfolding body_sums
sums_counted box patches listed {c} {faces} e n =
    let s = body_sums box patches listed in
    let m : faces - s.accepted ≡ s.failed = omega (arith, rows_both box patches listed) in
    (λ j. sums_with (e j) faces listed) ∙ (λ j. record {
      bodies = 1;
      accepted = s.accepted;
      failed = m j;
      triangles = s.triangles;
      vertices = s.vertices;
      empty = s.empty;
      upstream = s.upstream;
      escaped = s.escaped;
      listed = listed;
    })

-- ---- a body that passed the checks up to 31

module _ (rule : Rule) (words : ℕ) (page : Page) (b : Body) (h : Passes words b) {c : RowCounts} {faces listed : ℕ}
    (e : c ≡ counts_of (body_sums b.box (shapes b.table b.positions b.indices) 0)) (f : faces ≡ length (rows_of b.table)) (n : listed ≡ length (faces_of_body rule b)) where
  -- what its rows count is what it adds
  sums_body : sums_with c faces listed ≡ sums_in rule b
  sums_body =
      sums_counted b.box (shapes b.table b.positions b.indices) listed e (f ∙ sym (length_patches (rows_of b.table) b.positions [] b.indices))
      ∙ sym (sums_bare b.box (rows_of b.table) b.positions b.normals b.indices listed)
      ∙ ap (body_sums b.box (patches_in b)) n

  -- It may be added to a page that 67 accepts.
  pub page_ready : bad_page page ≡ false → PageReady page c faces listed
  page_ready good =
      let all = rows_both b.box (shapes b.table b.positions b.indices) 0 in
      let m = length_patches (rows_of b.table) b.positions [] b.indices in
      record {
        good = good;
        few = omega (arith, all, m, f, ap (λ (d : RowCounts). d.accepted) e);
        within = subst Within (sym sums_body) (body_within rule words b h);
      }

  -- Adding it by what its rows count is adding it.
  pub page_added : page_with (plus (sums_of page) (sums_with c faces listed)) ≡ with_body rule page b
  page_added = ap (λ (s : Sums). page_with (plus (sums_of page) s)) sums_body
