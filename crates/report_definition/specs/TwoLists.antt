-- The theorem of request N7: the page of two lists of bodies laid end to end has the sums of their numbers, the fraction reduced anew, and their face lists one after the other.
-- Assumes nothing.
use Rattle.std.specs.Prelude.{◌≡◌, ℕ, ◌+◌, ◌*◌, ◌≤◌, drop, Ok}
use Rattle.std.proofs.Common.{sym, ◌∙◌}
use Rattle.std.proofs.Math.Path.{ap}
use mathlib.Core.List.{List, [], ◌∷◌, ◌++◌, flat_map}
use native.Mathlib.Omega.{arith}
use Rattle.std.proofs.Math.ListN.{length, take, length-append}
use Rattle.std.proofs.Math.Seq.{take_at}
use Rattle.lists.specs.Lists.{written}
use Rattle.lists.specs.Each.{Each}
use Rattle.point_rules.specs.Rule.{Rule}
use Rattle.report_definition.specs.declared.Page.{Page}
use Rattle.report_definition.specs.Page.{plus, sums_of, page_with, empty_page, body_sums}
use Rattle.report_definition.specs.Audit.{Entry}
use Rattle.report_definition.specs.Report.{Body, faces_of_body, with_body, entry_width, entry_numbers, room_of, most_bodies, AfterReport}
use Rattle.report_definition.specs.Pages.{page_from, page_of, faces_of, two_pages, two_face_lists}
use Rattle.report_definition.specs.Limits.{Passes}
use Rattle.report_definition.specs.Calls.{calls, numbers_length, numbers_append, calls_report}

module _ (rule : Rule) where
  -- what the calls on some accepted bodies leave, from the empty page: their page, and their entries as the first of the list
  pub record Reports (bs : List Body) (r : AfterReport) : Type 0 where
    pub answer : r.answer ≡ Ok (page_of rule bs)
    pub faces : take (entry_width * (page_of rule bs).listed) r.list ≡ flat_map entry_numbers (faces_of rule bs)

  -- the page says how many faces are listed
  pub from_listed : (page : Page) (bs : List Body) → (page_from rule page bs).listed ≡ page.listed + length (faces_of rule bs)
  unfolding page_from faces_of flat_map body_sums
  from_listed page [] = omega arith
  from_listed page (b ∷ bs) = omega (arith, from_listed (with_body rule page b) bs, length-append (faces_of_body rule b) (faces_of rule bs))

  -- the calls leave that
  pub reports : (bs : List Body) (list work : List ℕ) → length bs ≤ most_bodies → Each (Passes (length work)) bs → length (faces_of rule bs) ≤ room_of list
      → Reports bs (calls rule empty_page bs list work)
  unfolding written page_of
  reports bs list work few e room =
      let all = calls_report rule bs list work few e room in
      let ns = flat_map entry_numbers (faces_of rule bs) in
      let n : length ns ≡ entry_width * (page_of rule bs).listed = omega (arith, numbers_length (faces_of rule bs), from_listed empty_page bs) in
      record {
        answer = ap (λ (r : AfterReport). r.answer) all;
        faces = ap (λ (r : AfterReport). take (entry_width * (page_of rule bs).listed) r.list) all ∙ take_at ns (drop (length ns) list) _ n;
      }

  -- What the calls on two lists of bodies laid end to end leave, against what those on each leave: the sums of the numbers of their pages p and q, the fraction reduced anew,
  -- and their face lists one after the other.
  pub record EndToEnd (p q : Page) (first second both : AfterReport) : Type 0 where
    pub first_page : first.answer ≡ Ok p
    pub second_page : second.answer ≡ Ok q
    pub page : both.answer ≡ Ok (page_with (plus (sums_of p) (sums_of q)))
    pub faces : take (entry_width * (p.listed + q.listed)) both.list ≡ take (entry_width * p.listed) first.list ++ take (entry_width * q.listed) second.list

  -- So it is for two lists of at most 4,096 accepted bodies together, each from the empty page, with face lists that have room.
  pub two_lists : (xs ys : List Body) (xl yl list xw yw work : List ℕ) → length xs + length ys ≤ most_bodies
      → Each (Passes (length xw)) xs → Each (Passes (length yw)) ys → Each (Passes (length work)) (xs ++ ys)
      → length (faces_of rule xs) ≤ room_of xl → length (faces_of rule ys) ≤ room_of yl → length (faces_of rule xs) + length (faces_of rule ys) ≤ room_of list
      → EndToEnd (page_of rule xs) (page_of rule ys) (calls rule empty_page xs xl xw) (calls rule empty_page ys yl yw) (calls rule empty_page (xs ++ ys) list work)
  two_lists xs ys xl yl list xw yw work few ex ey e rx ry room =
      let n = length-append (faces_of rule xs) (faces_of rule ys) in
      let m = ap length (two_face_lists rule xs ys) in
      let a = reports xs xl xw (omega arith) ex rx in
      let b = reports ys yl yw (omega arith) ey ry in
      let c = reports (xs ++ ys) list work (omega (arith, length-append xs ys)) e (omega (arith, n, m)) in
      let all = calls rule empty_page (xs ++ ys) list work in
      record {
        first_page = a.answer;
        second_page = b.answer;
        page = c.answer ∙ ap (λ (p : Page). Ok p) (two_pages rule xs ys);
        faces =
            ap (λ (p : Page). take (entry_width * p.listed) all.list) (sym (two_pages rule xs ys))
            ∙ c.faces
            ∙ ap (λ (es : List Entry). flat_map entry_numbers es) (two_face_lists rule xs ys)
            ∙ numbers_append (faces_of rule xs) (faces_of rule ys)
            ∙ (λ j. sym a.faces j ++ sym b.faces j);
      }
