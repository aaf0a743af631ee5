-- The calls of the report in a row, each with the page, the face list and the work area that the call before gave. Assumes nothing.
use Rattle.std.specs.Prelude.{◌≡◌, refl, ℕ, ◌+◌, ◌*◌, ◌≤◌, take, drop, replicate, eqb, Ok, Err}
use Rattle.std.proofs.Math.Path.{sym, ap}
use Rattle.std.proofs.Common.{◌∙◌, subst, length-drop, take-append-drop, length-take-le, take_at, drop_at, drop-drop, le-ltb}
use Rattle.std.proofs.Math.Bool.{true, false}
use mathlib.Core.List.{List, [], ◌∷◌, ◌++◌, flat_map, append_assoc}
use native.Mathlib.Omega.{arith}
use Rattle.std.proofs.Math.ListN.{length, length-append}
use Rattle.std.proofs.lemmas.List.{length-replicate}
use Rattle.lists.specs.Lists.{written}
use Rattle.lists.specs.Each.{Each}
use Rattle.point_rules.specs.Rule.{Rule}
use Rattle.body_rows.specs.Body.{Row, rows_of, first_failing, work_needed, cleared}
use Rattle.body_rows.specs.Checks.{first_next, first_none}
use Rattle.body_checks.specs.Accepted.{passed}
use Rattle.report_definition.specs.declared.Page.{Page}
use Rattle.report_definition.specs.Page.{sums_of, empty_page, body_sums}
use Rattle.report_definition.specs.Audit.{Entry}
use Rattle.report_definition.specs.Report.{
  Body,
  faces_of_body,
  with_body,
  entry_width,
  entry_numbers,
  room_of,
  list_after,
  most_bodies,
  full_page,
  full_list,
  bad_page,
  report_checks,
  AfterReport,
  left_report,
  add_or_refuse,
  report_of,
}
use Rattle.report_definition.specs.Pages.{page_from, page_of, faces_of}
use Rattle.report_definition.specs.Limits.{Passes, Within, none_within, plus_within, within_good, body_within}

-- what follows a call: the next with what it gave, or nothing after a refusal
unfoldable pub onward : (Page → List ℕ → List ℕ → AfterReport) → AfterReport → AfterReport
onward next r = elim r.answer [ Ok p ↦ next p r.list r.work | Err n ↦ r ]

-- a call for each body in turn
unfoldable pub calls : Rule → Page → List Body → List ℕ → List ℕ → AfterReport
calls rule page [] list work = left_report (Ok page) list work
calls rule page (b ∷ bs) list work = onward (λ p l w. calls rule p bs l w) (report_of rule page b list work)

-- the work area after them: the words of each body cleared
unfoldable pub cleared_by : List Body → List ℕ → List ℕ
cleared_by [] work = work
cleared_by (b ∷ bs) work = cleared_by bs (cleared (rows_of b.table) work)

-- ---- the face list

-- two numbers an entry
pub numbers_length : (es : List Entry) → length (flat_map entry_numbers es) ≡ entry_width * length es
unfolding flat_map
numbers_length [] = refl
numbers_length (e ∷ es) = let h = numbers_length es in omega arith

-- the numbers of two lists of entries
pub numbers_append : (es fs : List Entry) → flat_map entry_numbers (es ++ fs) ≡ flat_map entry_numbers es ++ flat_map entry_numbers fs
unfolding flat_map
numbers_append [] fs = refl
numbers_append (e ∷ es) fs = ap (λ (ns : List ℕ). e.face ∷ e.count ∷ ns) (numbers_append es fs)

-- a list with room for the entries is as long as it was
pub list_long : (n : ℕ) (es : List Entry) (list : List ℕ) → n + length es ≤ room_of list → length (list_after n es list) ≡ length list
unfolding list_after written
list_long n es list h =
    let o = entry_width * n in
    let ns = flat_map entry_numbers es in
    omega (
      arith,
      numbers_length es,
      length-append (take o list) (ns ++ drop (length ns) (drop o list)),
      length-take-le o list (omega arith),
      length-append ns (drop (length ns) (drop o list)),
      length-drop (length ns) (drop o list),
      length-drop o list,
    )

-- entries behind entries are one run of entries
pub list_twice : (n : ℕ) (es fs : List Entry) (list : List ℕ) → n + length es ≤ room_of list → list_after (n + length es) fs (list_after n es list) ≡ list_after n (es ++ fs) list
unfolding list_after written
list_twice n es fs list h =
    let o = entry_width * n in
    let a = take o list in
    let xs = flat_map entry_numbers es in
    let ys = flat_map entry_numbers fs in
    let rest = drop (length xs) (drop o list) in
    let l : length (a ++ xs) ≡ entry_width * (n + length es) = omega (arith, length-append a xs, length-take-le o list (omega arith), numbers_length es) in
    let k = entry_width * (n + length es) in
    let front : take k (a ++ (xs ++ rest)) ≡ a ++ xs = ap (take k) (sym (append_assoc a xs rest)) ∙ take_at (a ++ xs) rest k l in
    let back : drop k (a ++ (xs ++ rest)) ≡ rest = ap (drop k) (sym (append_assoc a xs rest)) ∙ drop_at (a ++ xs) rest k l in
    let far : drop (length ys) rest ≡ drop (length (xs ++ ys)) (drop o list) = drop-drop (length ys) (length xs) (drop o list) ∙ ap (λ (m : ℕ). drop m (drop o list)) (sym (length-append xs ys)) in
    (λ j. front j ++ (ys ++ drop (length ys) (back j)))
    ∙ append_assoc a xs (ys ++ drop (length ys) rest)
    ∙ ap (λ (zs : List ℕ). a ++ zs) (sym (append_assoc xs ys (drop (length ys) rest)))
    ∙ (λ j. a ++ ((xs ++ ys) ++ far j))
    ∙ ap (λ (zs : List ℕ). a ++ (zs ++ drop (length zs) (drop o list))) (sym (numbers_append es fs))

-- no entries leave it
pub list_none : (n : ℕ) (list : List ℕ) → list_after n [] list ≡ list
unfolding list_after written flat_map
list_none n list = take-append-drop (entry_width * n) list

-- a work area with the words of 31 cleared is as long as it was
pub cleared_long : (rows : List Row) (work : List ℕ) → work_needed rows ≤ length work → length (cleared rows work) ≡ length work
unfolding cleared
cleared_long rows work h =
    omega (
      arith,
      length-append (replicate (work_needed rows) 0) (drop (work_needed rows) work),
      length-replicate {A = ℕ} (work_needed rows) 0,
      length-drop (work_needed rows) work,
    )

-- ---- a call that is accepted

module _ (rule : Rule) where
  -- no check of the report fails
  pub checks_pass : (page : Page) (entries room : ℕ) → bad_page page ≡ false → page.listed + entries ≤ room → first_failing (report_checks page entries room) ≡ 0
  unfolding report_checks
  checks_pass page entries room good h = sym (first_none ∙ first_next full_list [] (le-ltb room (page.listed + entries) h) ∙ first_next full_page _ good)

  -- A body is added where no check fails.
  pub report_accepted : (page : Page) (b : Body) (list work : List ℕ) → Passes (length work) b → bad_page page ≡ false → page.listed + length (faces_of_body rule b) ≤ room_of list
      → report_of rule page b list work ≡ left_report (Ok (with_body rule page b)) (list_after page.listed (faces_of_body rule b) list) (cleared (rows_of b.table) work)
  unfolding report_of add_or_refuse
  report_accepted page b list work h good room =
      let es = faces_of_body rule b in
      let zeros = cleared (rows_of b.table) work in
      ap (λ (n : ℕ). elim (eqb n 0) [ true ↦ add_or_refuse rule page b list zeros | false ↦ left_report (Err n) list work ]) h
      ∙ ap (λ (n : ℕ). elim (eqb n 0) [ true ↦ left_report (Ok (with_body rule page b)) (list_after page.listed es list) zeros | false ↦ left_report (Err n) list zeros ])
      (checks_pass page (length es) (room_of list) good room)

  -- ---- calls in a row

  -- The calls on accepted bodies add each to the page and its entries to the list, where 4,096 bodies are not passed and the list has room.
  pub calls_from : (page : Page) (bs : List Body) (list work : List ℕ) → Within (sums_of page) → page.bodies + length bs ≤ most_bodies → Each (Passes (length work)) bs
      → page.listed + length (faces_of rule bs) ≤ room_of list
      → calls rule page bs list work ≡ left_report (Ok (page_from rule page bs)) (list_after page.listed (faces_of rule bs) list) (cleared_by bs work)
  unfolding calls onward page_from faces_of cleared_by flat_map body_sums
  calls_from page [] list work w few e room = ap (λ (l : List ℕ). left_report (Ok page) l work) (sym (list_none page.listed list))
  calls_from page (b ∷ bs) list work w few e room =
      let es = faces_of_body rule b in
      let next = with_body rule page b in
      let n = length-append es (faces_of rule bs) in
      let fits : page.listed + length es ≤ room_of list = omega arith in
      let new = list_after page.listed es list in
      let zeros = cleared (rows_of b.table) work in
      let words : length zeros ≡ length work = cleared_long (rows_of b.table) work (passed b.table b.positions b.normals b.indices (length work) e.0).enough in
      let long = list_long page.listed es list fits in
      ap (onward (λ p l w. calls rule p bs l w)) (report_accepted page b list work e.0 (within_good page w (omega arith)) fits)
      ∙ calls_from next bs new zeros (plus_within w (body_within rule (length work) b e.0)) (omega arith)
      (subst (λ (k : ℕ). Each (Passes k) bs) (sym words) e.1) (omega (arith, n, long))
      ∙ ap (λ (l : List ℕ). left_report (Ok (page_from rule next bs)) l (cleared_by bs zeros)) (list_twice page.listed es (faces_of rule bs) list fits)

  -- From the empty page they give the page of the bodies, and their face list in front of the lent list.
  pub calls_report : (bs : List Body) (list work : List ℕ) → length bs ≤ most_bodies → Each (Passes (length work)) bs → length (faces_of rule bs) ≤ room_of list
      → calls rule empty_page bs list work ≡ left_report (Ok (page_of rule bs)) (written (flat_map entry_numbers (faces_of rule bs)) list) (cleared_by bs work)
  unfolding page_of list_after
  calls_report bs list work few e room = calls_from empty_page bs list work none_within (omega arith) e (omega arith)
