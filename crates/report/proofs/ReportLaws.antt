-- What the call answers and leaves, check by check. Assumes nothing.
use Rattle.std.specs.Prelude.{ℕ, Ok, Err}
use mathlib.Core.Path.{◌≡◌, sym, ap, ◌∙◌, subst}
use mathlib.Core.Bool.{Bool, true, false}
use mathlib.Core.List.{List, flat_map}
use Prim.Native.Nat.{ℕ, ◌+◌, ◌*◌, ◌/◌, ◌%◌, ◌≤◌, ◌<◌}
use native.Mathlib.Omega.{arith}
use borrow.Author.Tests.{ne_eqb, lt-ltb, leb-false, ltb-false}
use lib.ListN.{length, get_or, take, drop}
use lib.Dec.{leb, ltb, eqb}
use lib.Ieee.{Float}
use Rattle.point_rules.specs.Points.{key}
use Rattle.lists.specs.Lists.{any}
use Rattle.lists.specs.Any.{any_none}
use Rattle.lists.specs.Both.{or_left, or_right}
use Rattle.slice_append.specs.Appended.{Appended}
use Rattle.body_rows.specs.Body.{rows_of, all_vertices, work_needed, first_failing, cleared}
use Rattle.body_rows.specs.Checks.{first_here, first_next}
use Rattle.body_refusals.specs.BodyChecks.{body_checks}
use Rattle.body_checks.specs.Accepted.{Passed, passed}
use Rattle.body_checks.specs.Cleared.{cleared_is}
use Rattle.patch_geometry.specs.declared.Aabb.{Aabb}
use Rattle.report_definition.specs.declared.Page.{Page}
use Rattle.report_definition.specs.Report.{AfterReport, faces_of_body, with_body, room_of, list_after, full_page, full_list, most_bodies, most_of_body, counts_in, entry_width}
use Rattle.report_definition.specs.Report.{bad_page, report_checks, left_report, add_or_refuse, report_of}
use Rattle.report_definition.specs.Audit.{Entry}
use Rattle.report_definition.specs.Calls.{report_accepted, cleared_long}
use Rattle.report_audit.specs.Audited.{Audited, audit_in, audit_any, entries_at, no_entry}
use Rattle.report.specs.Bodies.{body_of}
use Rattle.report.specs.Listing.{ListReady, word_numbers}
use Rattle.report.proofs.ListLaws.{entries_written}

-- a body whose checks to 31 have passed
pub body_passed : (table : List ℕ) (ps ns : List Float) (is : List ℕ) (words : ℕ) {n : ℕ} → n ≡ first_failing (body_checks table ps ns is words) → n ≡ 0 → Passed table ps ns is words
body_passed table ps ns is words e z = passed table ps ns is words (sym e ∙ z)

module _ (table : List ℕ) (ps ns : List Float) (is : List ℕ) (box : Aabb) (page : Page) (list W : List ℕ) where
  -- what the definition says of the call
  abbrev told : AfterReport
  told = report_of key page (body_of table ps ns is box) list W

  -- a check of the body fails
  pub refused_body : {n : ℕ} → n ≡ first_failing (body_checks table ps ns is (length W)) → (n ≡ 0 → ⊥) → left_report (Err n) list W ≡ told
  unfolding report_of
  refused_body {n} e z =
      sym (ap (λ (k : ℕ). elim (eqb k 0) [
        | true ↦ add_or_refuse key page (body_of table ps ns is box) list (cleared (rows_of table) W)
        | false ↦ left_report (Err k) list W
      ]) (sym e) ∙ rw (ne_eqb n 0 z))

  module _ (h : first_failing (body_checks table ps ns is (length W)) ≡ 0) {Z : List ℕ} (z : Z ≡ cleared (rows_of table) W) where
    -- none does: those of the report decide
    report_next : add_or_refuse key page (body_of table ps ns is box) list (cleared (rows_of table) W) ≡ told
    unfolding report_of
    report_next =
        sym (ap (λ (k : ℕ). elim (eqb k 0) [
          | true ↦ add_or_refuse key page (body_of table ps ns is box) list (cleared (rows_of table) W)
          | false ↦ left_report (Err k) list W
        ]) h)

    -- one of those fails
    refused_report : (n : ℕ) → (n ≡ 0 → ⊥) → n ≡ first_failing (report_checks page (length (faces_of_body key (body_of table ps ns is box))) (room_of list)) → left_report (Err n) list Z ≡ told
    unfolding add_or_refuse
    refused_report n some e =
        ap (λ (l : List ℕ). left_report (Err n) list l) z
        ∙ sym (ap (λ (k : ℕ). elim (eqb k 0) [
          | true ↦ left_report (Ok (with_body key page (body_of table ps ns is box))) (list_after page.listed (faces_of_body key (body_of table ps ns is box)) list) (cleared (rows_of table) W)
          | false ↦ left_report (Err k) list (cleared (rows_of table) W)
        ]) (sym e) ∙ rw (ne_eqb n 0 some))
        ∙ report_next

    -- the page is refused
    pub refused_page : {b : Bool} → b ≡ bad_page page → b ≡ true → left_report (Err 67) list Z ≡ told
    unfolding report_checks
    refused_page e t = refused_report full_page (λ q. omega arith) (first_here full_page _ (sym e ∙ t))

    module _ (good : bad_page page ≡ false) {r : ℕ} (many : r ≡ length (faces_of_body key (body_of table ps ns is box))) where
      -- the list has no room
      pub refused_list : room_of list < page.listed + r → left_report (Err 69) list Z ≡ told
      unfolding report_checks
      refused_list l =
          refused_report full_list (λ q. omega arith)
          (first_here full_list _ (ap (λ (k : ℕ). ltb (room_of list) (page.listed + k)) (sym many) ∙ lt-ltb (room_of list) (page.listed + r) l) ∙ first_next full_page _ good)

      -- the body is added
      pub added : {p : Page} {new : List ℕ} → page.listed + r ≤ room_of list → p ≡ with_body key page (body_of table ps ns is box)
          → new ≡ list_after page.listed (faces_of_body key (body_of table ps ns is box)) list → left_report (Ok p) new Z ≡ told
      added {p} {new} room e f =
          (λ j. left_report (Ok (e j)) (f j) (z j))
          ∙ sym (report_accepted key page (body_of table ps ns is box) list W h good (subst (λ (k : ℕ). page.listed + k ≤ room_of list) many room))

-- ---- the listed faces of a page that 67 accepts
listed_low : (p : Page) → bad_page p ≡ false → p.listed ≤ 1073741824
unfolding bad_page any
listed_low p good =
    let few = leb-false most_bodies p.bodies (or_left (leb most_bodies p.bodies) (any (λ n. ltb (most_of_body * p.bodies) n) (counts_in p)) good) in
    let low = any_none (λ n. ltb (most_of_body * p.bodies) n) (counts_in p) 0 (or_right (leb most_bodies p.bodies) (any (λ n. ltb (most_of_body * p.bodies) n) (counts_in p)) good) 7 (omega arith) in
    omega (arith, few, ltb-false (most_of_body * p.bodies) p.listed low)

-- ---- a body that was audited
module _ (table : List ℕ) (ps ns : List Float) (is : List ℕ) (box : Aabb) (page : Page) (list W : List ℕ) (h : first_failing (body_checks table ps ns is (length W)) ≡ 0)
    {r : ℕ} {E : List ℕ} (a : Audited table ps is r W E) where
  -- it was accepted
  ok : Passed table ps ns is (length W)
  ok = passed table ps ns is (length W) h

  -- its entries are those of the definition
  pub entries_many : r ≡ length (faces_of_body key (body_of table ps ns is box))
  entries_many = a.many ∙ ap length (sym (audit_any table ps ns is))

  -- behind the words that 31 counts all is as it was
  rest_words : drop (work_needed (rows_of table)) E ≡ drop (work_needed (rows_of table)) W
  unfolding work_needed
  rest_words =
      let n : 16 * length is + 16 * length (rows_of table) + 4 * all_vertices (rows_of table) ≡ work_needed (rows_of table) = omega (arith, ok.all_indices_lem) in
      ap (λ (k : ℕ). drop k E) (sym n) ∙ a.rest ∙ ap (λ (k : ℕ). drop k W) n

  -- so clearing them leaves what the definition says
  pub cleared_after : {Z : List ℕ} → Z ≡ cleared (rows_of table) E → Z ≡ cleared (rows_of table) W
  cleared_after z = cleared_is W ok E rest_words z

  -- and the work area as long as it was
  pub work_long : {Z : List ℕ} → Z ≡ cleared (rows_of table) E → length Z ≡ length W
  work_long z = ap length (cleared_after z) ∙ cleared_long (rows_of table) W ok.enough

  -- the faces listed and its own are a number
  pub sum_fits : bad_page page ≡ false → page.listed + r < 18446744073709551616
  sum_fits good = omega (arith, listed_low page good, a.few, ok.rows)

  module _ {at : ℕ} (place : at ≡ entries_at (all_vertices (rows_of table)) (length (rows_of table)) (length is)) where
    -- the words of the entries stand in the work area
    words_there : at + r ≤ length E
    unfolding work_needed
    words_there = omega (arith, a.few, a.long, ok.enough, ok.all_indices_lem)

    -- they can be written where the list has room
    pub list_ready : page.listed + r ≤ length list / 2 → ListReady E at r list page.listed
    list_ready room = record { there = words_there; room = omega arith }

    -- What was written is what the definition says of the list.
    pub list_told : {new : List ℕ} → Appended (entry_width * page.listed) (flat_map word_numbers (take r (drop at E))) list new
        → new ≡ list_after page.listed (faces_of_body key (body_of table ps ns is box)) list
    list_told w =
        entries_written no_entry (audit_in table ps is) E at r page.listed a.many words_there
        (λ k l. ap (λ (i : ℕ). get_or E (i + k) 0 % 4294967296) place ∙ a.faces k l)
        (λ k l. ap (λ (i : ℕ). get_or E (i + k) 0 / 4294967296) place ∙ a.counts k l) w
        ∙ ap (λ (es : List Entry). list_after page.listed es list) (sym (audit_any table ps ns is))
