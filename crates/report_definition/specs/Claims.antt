-- Pages and audits of small bodies, each of which tells a reading of document 02 from a near miss. Assumes nothing.
use Rattle.std.specs.Prelude.{cond, ℕ, ◌+◌, ◌*◌, take, replicate, T, Result, Ok, Err}
use mathlib.Core.List.{List, [], ◌∷◌, ◌++◌, flat_map, map}
use Rattle.std.specs.Float.{nan}
use Rattle.lists.specs.Lists.{all}
use Rattle.lists.specs.Table.{Case, case, agrees}
use Rattle.point_rules.specs.Points.{key}
use Rattle.body_rows.specs.Given.{Given, at, below, row, triangle, triangle_in, given_table, given_positions, given_indices}
use Rattle.patch_geometry.specs.declared.Aabb.{Aabb}
use Rattle.patch_geometry.specs.Given.{box68, one_point}
use Rattle.report_definition.specs.declared.Page.{Page}
use Rattle.report_definition.specs.Page.{share_of, page_with, empty_page}
use Rattle.report_definition.specs.Report.{Body, faces_of_body, entry_numbers, bad_page, AfterReport, report_of}
use Rattle.report_definition.specs.Calls.{calls}
use Rattle.report_definition.specs.Evaluation.{evaluation}

-- ---- bodies, pages and what is told of them

-- a body with its box, its normals being its positions once more
body : Aabb → List Given → Body
body box gs = record { table = given_table gs; positions = given_positions gs; normals = given_positions gs; indices = given_indices gs; box = box }

-- the entries of its audit
audit : List Given → List ℕ
audit gs = flat_map entry_numbers (faces_of_body key (body one_point gs))

-- a page by its numbers
page : ℕ → ℕ → ℕ → ℕ → ℕ → ℕ → ℕ → ℕ → ℕ → Page
page bodies accepted failed triangles vertices empty upstream escaped listed =
    page_with
    (record { bodies = bodies; accepted = accepted; failed = failed; triangles = triangles; vertices = vertices; empty = empty; upstream = upstream; escaped = escaped; listed = listed })

-- a page's numbers in their order
page_numbers : Page → List ℕ
page_numbers p =
    p.bodies ∷ p.accepted ∷ p.failed ∷ p.triangles ∷ p.vertices ∷ p.empty ∷ p.upstream ∷ p.escaped ∷ p.listed ∷ p.share_accepted ∷ p.share_faces ∷ []

-- the page of an answer, or its refusal
answer_numbers : Result Page ℕ → List ℕ
answer_numbers (Ok p) = page_numbers p
answer_numbers (Err n) = n ∷ []

-- the answer, the list that is left, and the first two words of the work area
told : AfterReport → List ℕ
told r = answer_numbers r.answer ++ r.list ++ take 2 r.work

-- a body added to a page, with a list and so many words
bare : Page → List ℕ → Body → ℕ → AfterReport
bare p list b words = report_of key p b list (replicate words 7)

-- a body added to a page, with a list and 999 words
added : Page → List ℕ → Body → AfterReport
added p list b = bare p list b 999

-- ---- the audit

-- one triangle laid twice in one row
twice : List Given
twice = row 5 (at 0 0 0 ∷ at 1 0 0 ∷ at 0 1 0 ∷ []) (0 ∷ 1 ∷ 2 ∷ 0 ∷ 1 ∷ 2 ∷ []) ∷ []

-- two triangles that run the same way along an edge, with faces f and g in shells r and s
alike : ℕ → ℕ → ℕ → ℕ → List Given
alike r f s g = triangle_in r f (at 0 0 0) (at 2 0 0) (at 0 2 0) ∷ triangle_in s g (at 0 0 0) (at 2 0 0) (below 0 2 0) ∷ []

-- three triangles on one edge: the second runs against the first, and the third as the first does
as_first : List Given
as_first = triangle 1 (at 0 0 0) (at 2 0 0) (at 0 2 0) ∷ triangle 2 (at 2 0 0) (at 0 0 0) (below 0 2 0) ∷ triangle 3 (at 0 0 0) (at 2 0 0) (at 0 0 2) ∷ []

-- the same, but that the third runs as the second does
as_second : List Given
as_second = triangle 1 (at 0 0 0) (at 2 0 0) (at 0 2 0) ∷ triangle 2 (at 2 0 0) (at 0 0 0) (below 0 2 0) ∷ triangle 3 (at 2 0 0) (at 0 0 0) (at 0 0 2) ∷ []

-- four rows that use one edge, all the same way
pinwheel : List Given
pinwheel =
    triangle 8 (at 0 0 0) (at 0 0 1) (at 1 0 0)
    ∷ triangle 9 (at 0 0 0) (at 0 0 1) (at 0 1 0)
    ∷ triangle 3 (at 0 0 0) (at 0 0 1) (below 0 1 0)
    ∷ triangle 7 (at 0 0 0) (at 0 0 1) (below 1 1 0)
    ∷ []

-- a triangle with two equal corners, laid twice: the edge between these is skipped, and of the other the third use runs as the first
flat : List Given
flat = row 6 (at 0 0 0 ∷ at 0 0 0 ∷ at 1 0 0 ∷ []) (0 ∷ 1 ∷ 2 ∷ 0 ∷ 1 ∷ 2 ∷ []) ∷ []

-- entries, face and count
pub audits : List Case
audits =
    case 1 (audit twice) (5 ∷ 6 ∷ [])
    ∷ case 2 (audit (alike 0 4 0 4)) (4 ∷ 2 ∷ [])
    ∷ case 3 (audit (alike 0 5 0 4)) (4 ∷ 1 ∷ 5 ∷ 1 ∷ [])
    ∷ case 4 (audit (alike 0 4 1 5)) (4 ∷ 1 ∷ 5 ∷ 1 ∷ [])
    ∷ case 5 (audit as_first) (1 ∷ 1 ∷ 3 ∷ 1 ∷ [])
    ∷ case 6 (audit as_second) []
    ∷ case 7 (audit pinwheel) (8 ∷ 3 ∷ 3 ∷ 1 ∷ 7 ∷ 1 ∷ 9 ∷ 1 ∷ [])
    ∷ case 8 (audit flat) (6 ∷ 2 ∷ [])
    ∷ case 9 (audit (twice ++ alike 0 4 0 4)) (5 ∷ 6 ∷ 4 ∷ 2 ∷ [])
    ∷ []

-- The definitions yield each.
pub audits_hold : T (all agrees audits)
unfolding evaluation body audit twice alike as_first as_second pinwheel flat audits
audits_hold = tt

-- ---- the page

-- An upstream failure, a row without triangles, a triangle laid twice that escapes by its unused vertex (20, 0, 0), and a triangle that stays, with an unused vertex.
failing : Body
failing =
    let ps = given_positions (row 0 (at 20 0 0 ∷ at 0 0 0 ∷ at 1 0 0 ∷ at 0 1 0 ∷ at 4 0 0 ∷ at 1 4 0 ∷ at 0 1 4 ∷ at 1 1 1 ∷ []) [] ∷ []) in
    record {
      table = 0 ∷ 3 ∷ 7 ∷ 0 ∷ 0 ∷ 31 ∷ 0 ∷ 2 ∷ 0 ∷ 0 ∷ 0 ∷ 32 ∷ 0 ∷ 1 ∷ 0 ∷ 4 ∷ 6 ∷ 33 ∷ 0 ∷ 6 ∷ 0 ∷ 4 ∷ 3 ∷ 34 ∷ [];
      positions = ps;
      normals = ps;
      indices = 1 ∷ 2 ∷ 3 ∷ 1 ∷ 2 ∷ 3 ∷ 0 ∷ 1 ∷ 2 ∷ [];
      box = box68;
    }

-- its positions, but with normals that aren't finite
not_finite : Body
not_finite = record { table = failing.table; positions = failing.positions; normals = replicate 24 nan; indices = failing.indices; box = box68 }

-- an empty body
nothing : Body
nothing = record { table = []; positions = []; normals = []; indices = []; box = one_point }

-- the share as two numbers
share : ℕ → ℕ → List ℕ
share a n = (share_of a n).accepted ∷ (share_of a n).faces ∷ []

-- 1 for a page that 67 refuses
bad : Page → ℕ
bad p = cond (bad_page p) 1 0

-- pages of one body with a count of n in each place
each : ℕ → List Page
each n =
    page 1 n 0 0 0 0 0 0 0
    ∷ page 1 0 n 0 0 0 0 0 0
    ∷ page 1 0 0 n 0 0 0 0 0
    ∷ page 1 0 0 0 n 0 0 0 0
    ∷ page 1 0 0 0 0 n 0 0 0
    ∷ page 1 0 0 0 0 0 n 0 0
    ∷ page 1 0 0 0 0 0 0 n 0
    ∷ page 1 0 0 0 0 0 0 0 n
    ∷ []

-- the share; pages that 67 refuses
pub pages : List Case
pages =
    case 1 (share 2 4 ++ share 0 3 ++ share 0 0 ++ share 3 3 ++ share 1073741824 1610612736 ++ share 610 1597) (1 ∷ 2 ∷ 0 ∷ 1 ∷ 1 ∷ 1 ∷ 1 ∷ 1 ∷ 2 ∷ 3 ∷ 610 ∷ 1597 ∷ [])
    ∷ case 67 (map bad (each 262145)) (replicate 8 1)
    ∷ case 67 (map bad (each 262144)) (replicate 8 0)
    ∷ case 67 (bad (page 4096 0 0 0 0 0 0 0 0) ∷ bad (page 4095 0 0 (262144 * 4095) 0 0 0 0 0) ∷ bad (page 4095 0 0 (262144 * 4095 + 1) 0 0 0 0 0) ∷ []) (1 ∷ 0 ∷ 1 ∷ [])
    ∷ case 67 (bad empty_page ∷ bad (page 0 1 0 0 0 0 0 0 0) ∷ bad (page 0 0 0 0 0 0 0 0 1) ∷ []) (0 ∷ 1 ∷ 1 ∷ [])
    ∷ []

-- The definitions yield each.
pub pages_hold : T (all agrees pages)
unfolding evaluation page share bad each pages
pages_hold = tt

-- a page whose share is not that of its faces
odd : Page
odd =
    record {
      bodies = 1;
      accepted = 3;
      failed = 1;
      triangles = 30;
      vertices = 40;
      empty = 1;
      upstream = 0;
      escaped = 0;
      listed = 1;
      share_accepted = 9;
      share_faces = 7;
    }

-- three bodies in a row, from the empty page
in_aRow : List ℕ
in_aRow = told (calls key empty_page (body one_point twice ∷ failing ∷ body one_point (alike 0 4 1 5) ∷ []) (replicate 9 9) (replicate 999 7))

-- page, list and the first words that a call leaves: added to the empty page; to another, whose share is not read; an empty body; and calls in a row
pub calls_told : List Case
calls_told =
    case 1 (told (added empty_page (9 ∷ 9 ∷ 9 ∷ []) failing)) (1 ∷ 1 ∷ 3 ∷ 1 ∷ 4 ∷ 1 ∷ 1 ∷ 1 ∷ 1 ∷ 1 ∷ 4 ∷ 1 ∷ 6 ∷ 9 ∷ 0 ∷ 0 ∷ [])
    ∷ case 2 (told (added odd (9 ∷ 8 ∷ 7 ∷ 6 ∷ 5 ∷ 4 ∷ []) failing)) (2 ∷ 4 ∷ 4 ∷ 31 ∷ 44 ∷ 2 ∷ 1 ∷ 1 ∷ 2 ∷ 1 ∷ 2 ∷ 9 ∷ 8 ∷ 1 ∷ 6 ∷ 5 ∷ 4 ∷ 0 ∷ 0 ∷ [])
    ∷ case 3 (told (added empty_page [] nothing)) (1 ∷ 0 ∷ 0 ∷ 0 ∷ 0 ∷ 0 ∷ 0 ∷ 0 ∷ 0 ∷ 1 ∷ 1 ∷ 7 ∷ 7 ∷ [])
    ∷ case 4 (told (added odd (9 ∷ 8 ∷ []) nothing)) (2 ∷ 3 ∷ 1 ∷ 30 ∷ 40 ∷ 1 ∷ 0 ∷ 0 ∷ 1 ∷ 3 ∷ 4 ∷ 9 ∷ 8 ∷ 7 ∷ 7 ∷ [])
    ∷ case 5 in_aRow (3 ∷ 4 ∷ 3 ∷ 5 ∷ 13 ∷ 1 ∷ 1 ∷ 1 ∷ 4 ∷ 4 ∷ 7 ∷ 5 ∷ 6 ∷ 1 ∷ 6 ∷ 4 ∷ 1 ∷ 5 ∷ 1 ∷ 9 ∷ 0 ∷ 0 ∷ [])
    ∷ []

-- The definitions yield each.
pub calls_hold : T (all agrees calls_told)
unfolding evaluation body page_numbers answer_numbers told bare added twice alike failing nothing odd in_aRow calls_told
calls_hold = tt

-- A list too short, floored from an odd length; too short for what is listed already, with nothing new; 67 before 69; 31 before 67 and 23 before 31, where the words stay.
pub refusals : List Case
refusals =
    case 69 (told (added empty_page (9 ∷ []) failing) ++ told (added odd (9 ∷ 8 ∷ 7 ∷ []) failing)) (69 ∷ 9 ∷ 0 ∷ 0 ∷ 69 ∷ 9 ∷ 8 ∷ 7 ∷ 0 ∷ 0 ∷ [])
    ∷ case 69 (told (added odd (9 ∷ []) nothing)) (69 ∷ 9 ∷ 7 ∷ 7 ∷ [])
    ∷ case 67 (told (added (page 4096 0 0 0 0 0 0 0 1) [] failing) ++ told (added (page 0 0 0 0 0 0 0 0 1) [] failing)) (67 ∷ 0 ∷ 0 ∷ 67 ∷ 0 ∷ 0 ∷ [])
    ∷ case 31 (told (bare (page 4096 0 0 0 0 0 0 0 0) [] failing 239) ++ told (bare (page 4096 0 0 0 0 0 0 0 0) [] failing 240)) (31 ∷ 7 ∷ 7 ∷ 67 ∷ 0 ∷ 0 ∷ [])
    ∷ case 23 (told (bare (page 4096 0 0 0 0 0 0 0 0) [] not_finite 2)) (23 ∷ 7 ∷ 7 ∷ [])
    ∷ []

-- The definitions yield each.
pub refusals_hold : T (all agrees refusals)
unfolding evaluation page page_numbers answer_numbers told added bare failing not_finite nothing odd refusals
refusals_hold = tt
