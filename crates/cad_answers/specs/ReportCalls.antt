-- The calls of cad_report in a row, each handed the sums that the one before answered and no share, and the theorem of request N7 for them. Assumes nothing.
use Rattle.std.specs.Prelude.{◌≡◌, refl, Bool, true, false, List, [], ◌∷◌, ◌++◌, ℕ, ◌+◌, ◌*◌, ◌≤◌, length, take, eqb, Result, Ok, Err}
use Rattle.std.proofs.Common.{sym, ap, ◌∙◌, subst}
use Rattle.std.proofs.Math.Path.{transport}
use Rattle.lists.specs.Each.{Each}
use Rattle.point_rules.specs.Points.{key}
use Rattle.body_rows.specs.Body.{rows_of, first_failing, cleared}
use Rattle.body_refusals.specs.BodyChecks.{body_checks}
use Rattle.report_definition.specs.declared.Page.{Page}
use Rattle.report_definition.specs.Page.{Sums, plus, empty_page, Share, share_of}
use Rattle.report_definition.specs.Report.{Body, faces_of_body, entry_width, room_of, most_bodies, report_checks, AfterReport, left_report, add_or_refuse, report_of}
use Rattle.report_definition.specs.Share.{share_unread}
use Rattle.report_definition.specs.Pages.{faces_of}
use Rattle.report_definition.specs.Limits.{Passes}
use Rattle.report_definition.specs.Calls.{onward, calls}
use Rattle.report_definition.specs.TwoLists.{EndToEnd, two_lists}
use Rattle.cad_answers.specs.declared.reports.CadReported.{CadReported}
use Rattle.cad_answers.specs.Reports.{cad_reported, page_given, CadLeftReport, cad_left_report, cad_report_answered}

-- ---- the calls

-- a call that is handed the sums of what the call before answered
abbrev pub cad_report : CadReported → Body → List ℕ → List ℕ → CadLeftReport
cad_report r b list work =
    cad_report_answered (
    report_of key (page_given r.bodies r.accepted r.failed r.triangles r.vertices r.empty r.upstream r.escaped r.listed) b list work
    )

-- what the first call is handed: sums of 0
abbrev pub cad_nothing : CadReported
cad_nothing = cad_reported (Ok empty_page)

-- a call for each body in turn, with the face list and the work area as the call before left them; a refusal ends them
unfoldable pub cad_calls : CadReported → List Body → List ℕ → List ℕ → CadLeftReport
cad_calls r [] list work = cad_left_report r list work
cad_calls r (b ∷ bs) list work =
    let c = cad_report r b list work in
    elim (eqb c.answer.refusal 0) [ true ↦ cad_calls c.answer bs c.list c.work | false ↦ c ]

-- ---- they are the calls of the definition

-- a refusal has a number that isn't 0
abbrev Numbered : Result Page ℕ → Type 0
Numbered (Ok p) = Unit {0}
Numbered (Err n) = eqb n 0 ≡ false

-- so has that of a call
abbrev CallNumbered : AfterReport → Type 0
CallNumbered t = Numbered t.answer

numbered : (page : Page) (b : Body) (list work : List ℕ) → CallNumbered (report_of key page b list work)
unfolding report_of add_or_refuse
numbered page b list work =
    first (first_failing (body_checks b.table b.positions b.normals b.indices (length work)))
    (eqb (first_failing (body_checks b.table b.positions b.normals b.indices (length work))) 0) refl
  where
    second : (n : ℕ) (c : Bool) (p : Page) (l w : List ℕ) → eqb n 0 ≡ c → CallNumbered (elim c [ true ↦ left_report (Ok p) l w | false ↦ left_report (Err n) list w ])
    second n true p l w e = tt
    second n false p l w e = e

    zeros : List ℕ
    zeros = cleared (rows_of b.table) work

    first : (n : ℕ) (c : Bool) → eqb n 0 ≡ c → CallNumbered (elim c [ true ↦ add_or_refuse key page b list zeros | false ↦ left_report (Err n) list work ])
    first n true e =
        second (first_failing (report_checks page (length (faces_of_body key b)) (room_of list))) (eqb (first_failing (report_checks page (length (faces_of_body key b)) (room_of list))) 0) _ _ _ refl
    first n false e = e

-- The share is not read, so handing on the sums alone is handing on the page.
pub cad_calls_lem : (page : Page) (bs : List Body) (list work : List ℕ) → cad_calls (cad_reported (Ok page)) bs list work ≡ cad_report_answered (calls key page bs list work)
unfolding cad_calls calls onward
cad_calls_lem page [] list work = refl
cad_calls_lem page (b ∷ bs) list work =
    let given = page_given page.bodies page.accepted page.failed page.triangles page.vertices page.empty page.upstream page.escaped page.listed in
    let t = report_of key page b list work in
    ap (λ (r : AfterReport). step (cad_report_answered r)) (share_unread key b list work given page refl)
    ∙ go t.answer t.list t.work (numbered page b list work) (λ p l w. cad_calls_lem p bs l w)
  where
    step : CadLeftReport → CadLeftReport
    step c = elim (eqb c.answer.refusal 0) [ true ↦ cad_calls c.answer bs c.list c.work | false ↦ c ]

    go : (a : Result Page ℕ) (l w : List ℕ) → Numbered a
        → ((p : Page) (l w : List ℕ) → cad_calls (cad_reported (Ok p)) bs l w ≡ cad_report_answered (calls key p bs l w))
        → step (cad_report_answered (left_report a l w)) ≡ cad_report_answered (onward (λ p l w. calls key p bs l w) (left_report a l w))
    go (Ok p) l w n rest = rest p l w
    go (Err k) l w n rest = ap (λ (c : Bool). elim c [ true ↦ cad_calls (cad_reported (Err k)) bs l w | false ↦ cad_left_report (cad_reported (Err k)) l w ]) n

-- ---- two lists

-- the sums of an answer
abbrev pub cad_sums : CadReported → Sums
cad_sums r =
    record {
      bodies = r.bodies;
      accepted = r.accepted;
      failed = r.failed;
      triangles = r.triangles;
      vertices = r.vertices;
      empty = r.empty;
      upstream = r.upstream;
      escaped = r.escaped;
      listed = r.listed;
    }

-- the share of an answer
abbrev pub cad_share : CadReported → Share
cad_share r = record { accepted = r.share_accepted; faces = r.share_faces }

-- the face list of what calls left
abbrev pub cad_faces : CadLeftReport → List ℕ
cad_faces c = take (entry_width * c.answer.listed) c.list

-- What the calls on two lists of bodies laid end to end leave, against what those on each leave: none is refused, the sums of their numbers, the fraction reduced anew,
-- and their face lists one after the other.
pub record CadEndToEnd (first second both : CadLeftReport) : Type 0 where
  pub first_done : first.answer.refusal ≡ 0
  pub second_done : second.answer.refusal ≡ 0
  pub both_done : both.answer.refusal ≡ 0
  pub sums : cad_sums both.answer ≡ plus (cad_sums first.answer) (cad_sums second.answer)
  pub share : cad_share both.answer ≡ share_of both.answer.accepted (both.answer.accepted + both.answer.failed)
  pub faces : cad_faces both ≡ cad_faces first ++ cad_faces second

module _ {p q : Page} {first second both : AfterReport} (e : EndToEnd key p q first second both) where
  -- what the definition says of the calls, with the answers as cad_report gives them
  cad_end : CadEndToEnd (cad_report_answered first) (cad_report_answered second) (cad_report_answered both)
  cad_end = record {
    first_done = ap (λ (a : Result Page ℕ). (cad_reported a).refusal) e.first_page;
    second_done = ap (λ (a : Result Page ℕ). (cad_reported a).refusal) e.second_page;
    both_done = ap (λ (a : Result Page ℕ). (cad_reported a).refusal) e.page;
    sums =
        ap (λ (a : Result Page ℕ). cad_sums (cad_reported a)) e.page
        ∙ (λ j. plus (cad_sums (cad_reported (sym e.first_page j))) (cad_sums (cad_reported (sym e.second_page j))));
    share = subst (λ (a : Result Page ℕ). cad_share (cad_reported a) ≡ share_of (cad_reported a).accepted ((cad_reported a).accepted + (cad_reported a).failed)) (sym e.page) refl;
    faces =
        ap (λ (a : Result Page ℕ). take (entry_width * (cad_reported a).listed) both.list) e.page
        ∙ e.faces
        ∙ (λ j.
        take (entry_width * (cad_reported (sym e.first_page j)).listed) first.list
        ++ take (entry_width * (cad_reported (sym e.second_page j)).listed) second.list);
  }

-- So it is for two lists of at most 4,096 accepted bodies together, each from sums of 0, with face lists that have room.
pub cad_two_lists : (xs ys : List Body) (xl yl list xw yw work : List ℕ) → length xs + length ys ≤ most_bodies
    → Each (Passes (length xw)) xs → Each (Passes (length yw)) ys → Each (Passes (length work)) (xs ++ ys)
    → length (faces_of key xs) ≤ room_of xl → length (faces_of key ys) ≤ room_of yl → length (faces_of key xs) + length (faces_of key ys) ≤ room_of list
    → CadEndToEnd (cad_calls cad_nothing xs xl xw) (cad_calls cad_nothing ys yl yw) (cad_calls cad_nothing (xs ++ ys) list work)
cad_two_lists xs ys xl yl list xw yw work few ex ey e rx ry room =
    let x = cad_calls_lem empty_page xs xl xw in
    let y = cad_calls_lem empty_page ys yl yw in
    let z = cad_calls_lem empty_page (xs ++ ys) list work in
    let all = cad_end (two_lists key xs ys xl yl list xw yw work few ex ey e rx ry room) in
    transport (λ j. CadEndToEnd (sym x j) (sym y j) (sym z j)) all
