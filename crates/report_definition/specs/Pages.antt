-- The page and the face list of many bodies (request N7), and of two lists of bodies laid end to end. Assumes nothing.
use Rattle.std.specs.Prelude.{◌≡◌, ◌+◌, length}
use Rattle.std.proofs.Math.Path.{refl, sym, ap}
use Rattle.std.proofs.Common.{◌∙◌, add-zero, zero-add, add_assoc}
use mathlib.Core.List.{List, [], ◌∷◌, ◌++◌, flat_map, append_assoc}
use Rattle.point_rules.specs.Rule.{Rule}
use Rattle.report_definition.specs.declared.Page.{Page}
use Rattle.report_definition.specs.Page.{Sums, no_sums, plus, sums_of, page_with, empty_page, body_sums}
use Rattle.report_definition.specs.Audit.{Entry}
use Rattle.report_definition.specs.Report.{Body, patches_in, faces_of_body, with_body}

-- ---- the definitions

-- bodies added to a page one by one
unfoldable pub page_from : Rule → Page → List Body → Page
page_from rule page [] = page
page_from rule page (b ∷ bs) = page_from rule (with_body rule page b) bs

-- the page of some bodies, from the empty page
unfoldable pub page_of : Rule → List Body → Page
page_of rule bs = page_from rule empty_page bs

-- their face list, body by body
unfoldable pub faces_of : Rule → List Body → List Entry
faces_of rule bs = flat_map (faces_of_body rule) bs

-- ---- sums

-- nothing added
pub plus_none : (s : Sums) → plus s no_sums ≡ s
plus_none s = λ j. record {
  bodies = add-zero s.bodies j;
  accepted = add-zero s.accepted j;
  failed = add-zero s.failed j;
  triangles = add-zero s.triangles j;
  vertices = add-zero s.vertices j;
  empty = add-zero s.empty j;
  upstream = add-zero s.upstream j;
  escaped = add-zero s.escaped j;
  listed = add-zero s.listed j;
}

-- added to nothing
pub none_plus : (s : Sums) → plus no_sums s ≡ s
none_plus s = λ j. record {
  bodies = zero-add s.bodies j;
  accepted = zero-add s.accepted j;
  failed = zero-add s.failed j;
  triangles = zero-add s.triangles j;
  vertices = zero-add s.vertices j;
  empty = zero-add s.empty j;
  upstream = zero-add s.upstream j;
  escaped = zero-add s.escaped j;
  listed = zero-add s.listed j;
}

-- three, either way grouped
pub plus_assoc : (s t u : Sums) → plus (plus s t) u ≡ plus s (plus t u)
plus_assoc s t u = λ j. record {
  bodies = add_assoc s.bodies t.bodies u.bodies j;
  accepted = add_assoc s.accepted t.accepted u.accepted j;
  failed = add_assoc s.failed t.failed u.failed j;
  triangles = add_assoc s.triangles t.triangles u.triangles j;
  vertices = add_assoc s.vertices t.vertices u.vertices j;
  empty = add_assoc s.empty t.empty u.empty j;
  upstream = add_assoc s.upstream t.upstream u.upstream j;
  escaped = add_assoc s.escaped t.escaped u.escaped j;
  listed = add_assoc s.listed t.listed u.listed j;
}

-- ---- the theorem

module _ (rule : Rule) where
  -- what a body adds
  abbrev pub sums_in : Body → Sums
  sums_in b = body_sums b.box (patches_in b) (length (faces_of_body rule b))

  -- Bodies added to a page whose share is that of its sums add the numbers of their own page.
  pub page_from_lem : (s : Sums) (bs : List Body) → page_from rule (page_with s) bs ≡ page_with (plus s (sums_of (page_of rule bs)))
  unfolding page_from page_of
  page_from_lem s [] = ap page_with (sym (plus_none s))
  page_from_lem s (b ∷ bs) =
      let rest = sums_of (page_of rule bs) in
      page_from_lem (plus s (sums_in b)) bs
      ∙ ap page_with (plus_assoc s (sums_in b) rest)
      ∙ ap (λ (t : Sums). page_with (plus s (plus t rest))) (sym (none_plus (sums_in b)))
      ∙ ap (λ (p : Page). page_with (plus s (sums_of p))) (sym (page_from_lem (plus no_sums (sums_in b)) bs))

  -- a page made from the empty one has the share of its sums
  pub page_whole : (bs : List Body) → page_of rule bs ≡ page_with (sums_of (page_of rule bs))
  unfolding page_of
  page_whole bs = page_from_lem no_sums bs ∙ ap page_with (none_plus (sums_of (page_of rule bs)))

  -- two lists laid end to end are added in turn
  pub from_append : (page : Page) (xs ys : List Body) → page_from rule page (xs ++ ys) ≡ page_from rule (page_from rule page xs) ys
  unfolding page_from
  from_append page [] ys = refl
  from_append page (b ∷ bs) ys = from_append (with_body rule page b) bs ys

  -- The page of two lists laid end to end has the sums of their numbers, the fraction reduced anew.
  pub two_pages : (xs ys : List Body) → page_of rule (xs ++ ys) ≡ page_with (plus (sums_of (page_of rule xs)) (sums_of (page_of rule ys)))
  unfolding page_of
  two_pages xs ys =
      from_append empty_page xs ys
      ∙ ap (λ (p : Page). page_from rule p ys) (page_whole xs)
      ∙ page_from_lem (sums_of (page_of rule xs)) ys

  -- Their face lists follow one after the other.
  pub two_face_lists : (xs ys : List Body) → faces_of rule (xs ++ ys) ≡ faces_of rule xs ++ faces_of rule ys
  unfolding faces_of flat_map
  two_face_lists [] ys = refl
  two_face_lists (b ∷ bs) ys =
      ap (λ (es : List Entry). faces_of_body rule b ++ es) (two_face_lists bs ys)
      ∙ sym (append_assoc (faces_of_body rule b) (faces_of rule bs) (faces_of rule ys))
