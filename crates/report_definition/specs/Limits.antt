-- What bodies add to a page: how its numbers hang together, and that those of accepted bodies stay within the limits of 67. Assumes nothing.
use Rattle.std.specs.Prelude.{◌≡◌, Bool, ◌||◌, take, drop, ltb, Float}
use Rattle.std.proofs.Math.Path.{refl}
use Rattle.std.proofs.Common.{ap, ◌∙◌, length-take, le-ltb}
use Rattle.std.proofs.Math.Bool.{true, false, not, cond}
use mathlib.Core.List.{List, [], ◌∷◌, map}
use Rattle.std.proofs.Math.Option.{Option, none, some}
use Prim.Native.Nat.{ℕ, suc, ◌+◌, ◌*◌, ◌/◌, ◌≤◌, ◌<◌}
use native.Mathlib.Omega.{arith}
use Rattle.std.proofs.Math.ListN.{length}
use Rattle.std.proofs.lemmas.Bool.{lt-leb}
use Rattle.lists.specs.Lists.{any, count_if, filter, sum_of, ascending}
use Rattle.lists.specs.Rising.{insert_long}
use Rattle.lists.specs.Each.{Each}
use Rattle.point_rules.specs.Rule.{Rule}
use Rattle.body_rows.specs.Body.{Row, Patch, rows_of, patches_of, triangles_of, all_vertices, all_indices, first_failing}
use Rattle.body_rows.specs.Patches.{length_patches}
use Rattle.body_refusals.specs.BodyChecks.{body_checks}
use Rattle.body_checks.specs.Accepted.{passed}
use Rattle.patch_geometry.specs.declared.Aabb.{Aabb}
use Rattle.mesh_verdicts.specs.declared.Failure.{Failure}
use Rattle.mesh_verdicts.specs.declared.Failure.TheVariants.{Empty, Upstream, Escape}
use Rattle.mesh_verdicts.specs.Failures.{failure_of}
use Rattle.report_definition.specs.declared.Page.{Page}
use Rattle.report_definition.specs.Page.{Sums, no_sums, plus, sums_of, empty_page, is_accepted, is_empty, is_upstream, is_escape, accepted_of, body_sums}
use Rattle.report_definition.specs.Audit.{Entry, insert_entry, ranked, entry_of, goes_before, entries_of, faces_in, marks_of, audit_of}
use Rattle.report_definition.specs.Report.{Body, patches_in, with_body, most_bodies, most_of_body, counts_in, bad_page}
use Rattle.report_definition.specs.Pages.{page_from, page_of, sums_in}

-- the checks up to 31 accept a body, with a work area of so many words
abbrev pub Passes : ℕ → Body → Type 0
Passes words b = first_failing (body_checks b.table b.positions b.normals b.indices words) ≡ 0

-- no count of the sums is above 262,144 times the bodies
pub record Within (s : Sums) : Type 0 where
  pub accepted : s.accepted ≤ most_of_body * s.bodies
  pub failed : s.failed ≤ most_of_body * s.bodies
  pub triangles : s.triangles ≤ most_of_body * s.bodies
  pub vertices : s.vertices ≤ most_of_body * s.bodies
  pub empty : s.empty ≤ most_of_body * s.bodies
  pub upstream : s.upstream ≤ most_of_body * s.bodies
  pub escaped : s.escaped ≤ most_of_body * s.bodies
  pub listed : s.listed ≤ most_of_body * s.bodies

-- nothing is within
pub none_within : Within no_sums
none_within =
    record {
      accepted = omega arith;
      failed = omega arith;
      triangles = omega arith;
      vertices = omega arith;
      empty = omega arith;
      upstream = omega arith;
      escaped = omega arith;
      listed = omega arith;
    }

-- the sums of two that are within are
pub plus_within : {s t : Sums} → Within s → Within t → Within (plus s t)
plus_within {s} {t} v w =
    record {
      accepted = omega (arith, v.accepted, w.accepted);
      failed = omega (arith, v.failed, w.failed);
      triangles = omega (arith, v.triangles, w.triangles);
      vertices = omega (arith, v.vertices, w.vertices);
      empty = omega (arith, v.empty, w.empty);
      upstream = omega (arith, v.upstream, w.upstream);
      escaped = omega (arith, v.escaped, w.escaped);
      listed = omega (arith, v.listed, w.listed);
    }

-- none of some numbers is above m
none_above : (m : ℕ) (ns : List ℕ) → Each (λ n. n ≤ m) ns → any (λ n. ltb m n) ns ≡ false
unfolding any
none_above m [] e = refl
none_above m (n ∷ ns) e = ap (λ (b : Bool). elim b [ true ↦ true | false ↦ any (λ n. ltb m n) ns ]) (le-ltb m n e.0) ∙ none_above m ns e.1

-- 67 accepts a page that is within and has fewer than 4,096 bodies
pub within_good : (p : Page) → Within (sums_of p) → p.bodies < most_bodies → bad_page p ≡ false
unfolding bad_page
within_good p w h =
    ap (λ (b : Bool). b || any (λ n. ltb (most_of_body * p.bodies) n) (counts_in p)) (lt-leb most_bodies p.bodies h)
    ∙ none_above (most_of_body * p.bodies) (counts_in p)
    (w.accepted, (w.failed, (w.triangles, (w.vertices, (w.empty, (w.upstream, (w.escaped, (w.listed, tt))))))))

-- ---- a body's own sums

module _ {A : Type 0} where
  -- at most all pass
  pub count_low : (f : A → Bool) (xs : List A) → count_if f xs ≤ length xs
  unfolding count_if
  count_low f [] = omega arith
  count_low f (x ∷ xs) = go (f x) (count_low f xs)
    where
      go : (b : Bool) → count_if f xs ≤ length xs → cond b (suc (count_if f xs)) (count_if f xs) ≤ suc (length xs)
      go true h = omega arith
      go false h = omega arith

  -- those that pass are at most all
  pub filter_low : (f : A → Bool) (xs : List A) → length (filter f xs) ≤ length xs
  unfolding filter
  filter_low f [] = omega arith
  filter_low f (x ∷ xs) = go (f x) (filter_low f xs)
    where
      go : (b : Bool) → length (filter f xs) ≤ length xs → length (cond b (x ∷ filter f xs) (filter f xs)) ≤ suc (length xs)
      go true h = omega arith
      go false h = omega arith

  -- and so is what they add up to
  pub filter_sum : (n : A → ℕ) (f : A → Bool) (xs : List A) → sum_of n (filter f xs) ≤ sum_of n xs
  unfolding filter sum_of
  filter_sum n f [] = omega arith
  filter_sum n f (x ∷ xs) = go (f x) (filter_sum n f xs)
    where
      go : (b : Bool) → sum_of n (filter f xs) ≤ sum_of n xs → sum_of n (cond b (x ∷ filter f xs) (filter f xs)) ≤ n x + sum_of n xs
      go true h = omega arith
      go false h = omega arith

  -- those that pass and those that don't are all
  pub count_both : (f : A → Bool) (xs : List A) → count_if f xs + count_if (λ x. not (f x)) xs ≡ length xs
  unfolding count_if
  count_both f [] = refl
  count_both f (x ∷ xs) = go (f x) (count_both f xs)
    where
      go : (b : Bool) → count_if f xs + count_if (λ x. not (f x)) xs ≡ length xs
          → cond b (suc (count_if f xs)) (count_if f xs) + cond (not b) (suc (count_if (λ x. not (f x)) xs)) (count_if (λ x. not (f x)) xs) ≡ suc (length xs)
      go true h = omega arith
      go false h = omega arith

-- A failed row is empty, failed upstream or escapes.
pub failed_kinds : (box : Aabb) (patches : List Patch)
    → count_if (λ p. not (is_accepted (failure_of box p))) patches
    ≡ count_if (λ p. is_empty (failure_of box p)) patches + count_if (λ p. is_upstream (failure_of box p)) patches + count_if (λ p. is_escape (failure_of box p)) patches
unfolding count_if
failed_kinds box [] = refl
failed_kinds box (p ∷ ps) =
    go (failure_of box p) (count_if (λ p. not (is_accepted (failure_of box p))) ps) (count_if (λ p. is_empty (failure_of box p)) ps) (count_if (λ p. is_upstream (failure_of box p)) ps)
    (count_if (λ p. is_escape (failure_of box p)) ps) (failed_kinds box ps)
  where
    go : (f : Option Failure) (n a b c : ℕ) → n ≡ a + b + c
        → cond (not (is_accepted f)) (suc n) n ≡ cond (is_empty f) (suc a) a + cond (is_upstream f) (suc b) b + cond (is_escape f) (suc c) c
    go none n a b c h = h
    go (some Empty) n a b c h = omega arith
    go (some (Upstream k)) n a b c h = omega arith
    go (some (Escape reach span)) n a b c h = omega arith

-- a triangle for every three indices
pub triangles_length : (is : List ℕ) → length (triangles_of is) ≡ length is / 3
unfolding triangles_of
triangles_length [] = refl
triangles_length (a ∷ []) = refl
triangles_length (a ∷ b ∷ []) = refl
triangles_length (a ∷ b ∷ c ∷ is) = let h = triangles_length is in omega arith

-- three indices a triangle
pub triangles_low : (is : List ℕ) → 3 * length (triangles_of is) ≤ length is
unfolding triangles_of
triangles_low [] = omega arith
triangles_low (a ∷ []) = omega arith
triangles_low (a ∷ b ∷ []) = omega arith
triangles_low (a ∷ b ∷ c ∷ is) = let h = triangles_low is in omega arith

-- the triangles of all rows have no more indices than the rows
pub triangles_rows : (rows : List Row) (ps ns : List Float) (is : List ℕ) → 3 * sum_of (λ p. length (triangles_of p.indices)) (patches_of rows ps ns is) ≤ all_indices rows
unfolding patches_of sum_of all_indices
triangles_rows [] ps ns is = omega arith
triangles_rows (r ∷ rs) ps ns is =
    let h = triangles_low (take r.indices is) in
    let l = length-take r.indices is in
    let rest = triangles_rows rs (drop (3 * r.vertices) ps) (drop (3 * r.vertices) ns) (drop r.indices is) in
    omega arith

-- the vertices of all patches are those of the rows
pub vertices_rows : (rows : List Row) (ps ns : List Float) (is : List ℕ) → sum_of (λ p. p.row.vertices) (patches_of rows ps ns is) ≡ all_vertices rows
unfolding patches_of sum_of all_vertices
vertices_rows [] ps ns is = refl
vertices_rows (r ∷ rs) ps ns is = ap (λ (n : ℕ). r.vertices + n) (vertices_rows rs (drop (3 * r.vertices) ps) (drop (3 * r.vertices) ns) (drop r.indices is))

-- one more
pub insert_length : (e : Entry) (es : List Entry) → length (insert_entry e es) ≡ suc (length es)
unfolding insert_entry
insert_length e [] = refl
insert_length e (f ∷ fs) = go (goes_before e f) (insert_length e fs)
  where
    go : (b : Bool) → length (insert_entry e fs) ≡ suc (length fs) → length (cond b (e ∷ f ∷ fs) (f ∷ insert_entry e fs)) ≡ suc (suc (length fs))
    go true h = refl
    go false h = ap suc h

-- entries in their order are as many
pub ranked_length : (es : List Entry) → length (ranked es) ≡ length es
unfolding ranked
ranked_length [] = refl
ranked_length (e ∷ es) = insert_length e (ranked es) ∙ ap suc (ranked_length es)

-- numbers in ascending order, each once, are at most as many
pub ascending_low : (ns : List ℕ) → length (ascending ns) ≤ length ns
unfolding ascending
ascending_low [] = omega arith
ascending_low (n ∷ ns) = omega (arith, insert_long n (ascending ns), ascending_low ns)

map_length : {A B : Type 0} (f : A → B) (xs : List A) → length (map f xs) ≡ length xs
map_length f [] = refl
map_length f (x ∷ xs) = ap suc (map_length f xs)

-- an audit lists at most as many faces as there are rows
pub audit_low : (rule : Rule) (ps : List Float) (patches : List Patch) → length (audit_of rule ps patches) ≤ length patches
unfolding audit_of entries_of
audit_low rule ps patches =
    let faces = faces_in patches in
    let es = map (entry_of (marks_of rule ps patches)) (ascending faces) in
    omega (
      arith,
      ranked_length (filter (λ e. ltb 0 e.count) es),
      filter_low (λ (e : Entry). ltb 0 e.count) es,
      map_length (entry_of (marks_of rule ps patches)) (ascending faces),
      ascending_low faces,
      map_length (λ (p : Patch). p.row.face) patches,
    )

-- An accepted body has at most 4,096 rows, 262,144 triangles and 262,144 vertices.
pub body_within : (rule : Rule) (words : ℕ) (b : Body) → Passes words b → Within (sums_in rule b)
unfolding body_sums accepted_of
body_within rule words b h =
    let p = passed b.table b.positions b.normals b.indices words h in
    let box = b.box in
    let patches = patches_in b in
    let rows = rows_of b.table in
    let few = p.rows in
    let n = length_patches rows b.positions b.normals b.indices in
    record {
      accepted = omega (arith, few, n, count_low (λ p. is_accepted (failure_of box p)) patches);
      failed = omega (arith, few, n, count_low (λ p. not (is_accepted (failure_of box p))) patches);
      triangles =
          omega (
            arith,
            p.indices,
            triangles_rows rows b.positions b.normals b.indices,
            filter_sum (λ (p : Patch). length (triangles_of p.indices)) (λ p. is_accepted (failure_of box p)) patches,
          );
      vertices =
          omega (
            arith,
            p.vertices,
            vertices_rows rows b.positions b.normals b.indices,
            filter_sum (λ (p : Patch). p.row.vertices) (λ p. is_accepted (failure_of box p)) patches,
          );
      empty = omega (arith, few, n, count_low (λ p. is_empty (failure_of box p)) patches);
      upstream = omega (arith, few, n, count_low (λ p. is_upstream (failure_of box p)) patches);
      escaped = omega (arith, few, n, count_low (λ p. is_escape (failure_of box p)) patches);
      listed = omega (arith, few, n, audit_low rule b.positions patches);
    }

-- ---- many bodies

module _ (rule : Rule) where
  -- accepted bodies added to a page that is within leave it within
  pub from_within : (words : ℕ) (page : Page) (bs : List Body) → Within (sums_of page) → Each (Passes words) bs → Within (sums_of (page_from rule page bs))
  unfolding page_from
  from_within words page [] w e = w
  from_within words page (b ∷ bs) w e = from_within words (with_body rule page b) bs (plus_within w (body_within rule words b e.0)) e.1

  -- and it has as many bodies more
  pub from_bodies : (page : Page) (bs : List Body) → (page_from rule page bs).bodies ≡ page.bodies + length bs
  unfolding page_from body_sums
  from_bodies page [] = omega arith
  from_bodies page (b ∷ bs) = omega (arith, from_bodies (with_body rule page b) bs)

  -- The page of fewer than 4,096 accepted bodies is never refused with 67.
  pub page_good : (words : ℕ) (bs : List Body) → length bs < most_bodies → Each (Passes words) bs → bad_page (page_of rule bs) ≡ false
  unfolding page_of
  page_good words bs h e = within_good (page_from rule empty_page bs) (from_within words empty_page bs none_within e) (omega (arith, from_bodies empty_page bs))
