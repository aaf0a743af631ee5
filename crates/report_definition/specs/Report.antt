-- The call that adds a stitched body to the page (request N7): what it answers and what it leaves. Assumes nothing.
use Rattle.std.specs.Prelude.{Bool, true, false, ◌||◌, ℕ, ◌+◌, ◌*◌, ◌/◌, length, take, drop, leb, ltb, eqb, Float, Result, Ok, Err}
use mathlib.Core.List.{List, [], ◌∷◌, ◌++◌, flat_map}
use Rattle.lists.specs.Lists.{any, written}
use Rattle.point_rules.specs.Rule.{Rule}
use Rattle.body_rows.specs.Body.{Patch, Check, check, rows_of, patches_of, first_failing, cleared}
use Rattle.body_refusals.specs.BodyChecks.{body_checks}
use Rattle.patch_geometry.specs.declared.Aabb.{Aabb}
use Rattle.report_definition.specs.declared.Page.{Page}
use Rattle.report_definition.specs.Page.{plus, sums_of, page_with, body_sums}
use Rattle.report_definition.specs.Audit.{Entry, audit_of}

-- a stitched body as it is lent, with its box
pub record Body : Type 0 where
  pub table : List ℕ
  pub positions : List Float
  pub normals : List Float
  pub indices : List ℕ
  pub box : Aabb

-- its patches
abbrev pub patches_in : Body → List Patch
patches_in b = patches_of (rows_of b.table) b.positions b.normals b.indices

-- its face numbers with a count above 0, in the order of the list
abbrev pub faces_of_body : Rule → Body → List Entry
faces_of_body rule b = audit_of rule b.positions (patches_in b)

-- the page with the body added
abbrev pub with_body : Rule → Page → Body → Page
with_body rule page b = page_with (plus (sums_of page) (body_sums b.box (patches_in b) (length (faces_of_body rule b))))

-- ---- the lent face list

-- how many numbers make an entry: the face number and the count
abbrev pub entry_width : ℕ
entry_width = 2

-- an entry's numbers
abbrev pub entry_numbers : Entry → List ℕ
entry_numbers e = e.face ∷ e.count ∷ []

-- how many entries a list holds; a number behind the last whole one is none
abbrev pub room_of : List ℕ → ℕ
room_of list = length list / entry_width

-- the list with entries behind the first so many; what stands before and behind them is unchanged
unfoldable pub list_after : ℕ → List Entry → List ℕ → List ℕ
list_after listed entries list = take (entry_width * listed) list ++ written (flat_map entry_numbers entries) (drop (entry_width * listed) list)

-- ---- the checks

-- the most bodies that a page may have
abbrev pub most_bodies : ℕ
most_bodies = 4096

-- the most that a count may be for each body
abbrev pub most_of_body : ℕ
most_of_body = 262144

-- the refusals
abbrev pub full_page : ℕ
full_page = 67

abbrev pub full_list : ℕ
full_list = 69

-- the counts of a page
abbrev pub counts_in : Page → List ℕ
counts_in p = p.accepted ∷ p.failed ∷ p.triangles ∷ p.vertices ∷ p.empty ∷ p.upstream ∷ p.escaped ∷ p.listed ∷ []

-- 67: the page has 4,096 bodies or more, or a count above 262,144 times its bodies
unfoldable pub bad_page : Page → Bool
bad_page p = leb most_bodies p.bodies || any (λ n. ltb (most_of_body * p.bodies) n) (counts_in p)

-- 67, and 69: the faces listed and so many new ones don't fit a list with so much room
unfoldable pub report_checks : Page → ℕ → ℕ → List Check
report_checks page entries room = check full_page (bad_page page) ∷ check full_list (ltb room (page.listed + entries)) ∷ []

-- ---- the call

-- what the report answers, and what it leaves in the lent face list and work area
pub record AfterReport : Type 0 where
  pub answer : Result Page ℕ
  pub list : List ℕ
  pub work : List ℕ

-- what it leaves, with the answer
abbrev pub left_report : Result Page ℕ → List ℕ → List ℕ → AfterReport
left_report answer list work = record { answer = answer; list = list; work = work }

-- the call for a body that passed the checks up to 31, with the words of 31 cleared
unfoldable pub add_or_refuse : Rule → Page → Body → List ℕ → List ℕ → AfterReport
add_or_refuse rule page b list work =
    let entries = faces_of_body rule b in
    let n = first_failing (report_checks page (length entries) (room_of list)) in
    elim (eqb n 0) [
      | true ↦ left_report (Ok (with_body rule page b)) (list_after page.listed entries list) work
      | false ↦ left_report (Err n) list work
    ]

-- the report: the page so far, the stitched body with its box, the face list and the work area as they are lent, points joined by a rule
unfoldable pub report_of : Rule → Page → Body → List ℕ → List ℕ → AfterReport
report_of rule page b list work =
    let n = first_failing (body_checks b.table b.positions b.normals b.indices (length work)) in
    elim (eqb n 0) [
      | true ↦ add_or_refuse rule page b list (cleared (rows_of b.table) work)
      | false ↦ left_report (Err n) list work
    ]
