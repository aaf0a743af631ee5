-- What a body adds to a page looks at no normals, and every row of it is accepted or failed. Assumes nothing.
use Rattle.std.specs.Prelude.{◌≡◌, refl, Bool, true, false, not, cond, List, [], ◌∷◌, map, ℕ, zero, suc, ◌+◌, ◌*◌, length, take, drop, Float}
use Rattle.std.proofs.Common.{sym, ap, ◌∙◌, arith}
use Rattle.lists.specs.Lists.{count_if, filter, sum_of}
use Rattle.body_rows.specs.Body.{Row, Patch, patches_of, triangles_of}
use Rattle.patch_geometry.specs.declared.Aabb.{Aabb}
use Rattle.mesh_verdicts.specs.Failures.{failure_of}
use Rattle.report_definition.specs.Page.{is_accepted, is_empty, is_upstream, is_escape, accepted_of, body_sums}

-- ---- without normals

-- a patch without its normals
abbrev bare : Patch → Patch
bare p = record { row = p.row; positions = p.positions; normals = []; indices = p.indices }

-- a stretch of nothing is nothing
take_nothing : (n : ℕ) → ◌≡◌ {A = List Float} (take n []) []
take_nothing zero = refl
take_nothing (suc n) = refl

-- nor is anything behind it
drop_nothing : (n : ℕ) → ◌≡◌ {A = List Float} (drop n []) []
drop_nothing zero = refl
drop_nothing (suc n) = refl

-- the patches of a body without its normals
bare_patches : (rows : List Row) (ps ns : List Float) (is : List ℕ) → map bare (patches_of rows ps ns is) ≡ patches_of rows ps [] is
unfolding patches_of
bare_patches [] ps ns is = refl
bare_patches (r ∷ rs) ps ns is =
    let v = 3 * r.vertices in
    (λ j. record { row = r; positions = take v ps; normals = sym (take_nothing v) j; indices = take r.indices is }
    ∷ bare_patches rs (drop v ps) (drop v ns) (drop r.indices is) j)
    ∙ ap (λ (xs : List Float). record { row = r; positions = take v ps; normals = take v []; indices = take r.indices is } ∷ patches_of rs (drop v ps) xs (drop r.indices is))
    (sym (drop_nothing v))

-- as many pass a test
count_bare : (f : Patch → Bool) (ps : List Patch) → count_if f (map bare ps) ≡ count_if (λ p. f (bare p)) ps
unfolding count_if
count_bare f [] = refl
count_bare f (p ∷ ps) = ap (λ (n : ℕ). cond (f (bare p)) (suc n) n) (count_bare f ps)

-- the numbers of those that pass a test
sum_bare : (n : Patch → ℕ) (f : Patch → Bool) (ps : List Patch) → sum_of n (filter f (map bare ps)) ≡ sum_of (λ p. n (bare p)) (filter (λ p. f (bare p)) ps)
unfolding sum_of filter
sum_bare n f [] = refl
sum_bare n f (p ∷ ps) = go (f (bare p)) (sum_bare n f ps)
  where
    rest : List Patch
    rest = filter f (map bare ps)

    others : List Patch
    others = filter (λ p. f (bare p)) ps

    go : (b : Bool) → sum_of n rest ≡ sum_of (λ p. n (bare p)) others → sum_of n (cond b (bare p ∷ rest) rest) ≡ sum_of (λ p. n (bare p)) (cond b (p ∷ others) others)
    go true e = ap (λ (m : ℕ). n (bare p) + m) e
    go false e = e

-- What a body adds looks at no normals.
pub sums_bare : (box : Aabb) (rows : List Row) (ps ns : List Float) (is : List ℕ) (n : ℕ) → body_sums box (patches_of rows ps ns is) n ≡ body_sums box (patches_of rows ps [] is) n
unfolding body_sums accepted_of
sums_bare box rows ps ns is n = same (patches_of rows ps ns is) ∙ ap (λ (qs : List Patch). body_sums box qs n) (bare_patches rows ps ns is)
  where
    same : (qs : List Patch) → body_sums box qs n ≡ body_sums box (map bare qs) n
    same qs =
        λ j. record {
          bodies = 1;
          accepted = sym (count_bare (λ p. is_accepted (failure_of box p)) qs) j;
          failed = sym (count_bare (λ p. not (is_accepted (failure_of box p))) qs) j;
          triangles = sym (sum_bare (λ p. length (triangles_of p.indices)) (λ p. is_accepted (failure_of box p)) qs) j;
          vertices = sym (sum_bare (λ p. p.row.vertices) (λ p. is_accepted (failure_of box p)) qs) j;
          empty = sym (count_bare (λ p. is_empty (failure_of box p)) qs) j;
          upstream = sym (count_bare (λ p. is_upstream (failure_of box p)) qs) j;
          escaped = sym (count_bare (λ p. is_escape (failure_of box p)) qs) j;
          listed = n;
        }

-- ---- accepted and failed

-- those that pass and those that don't are all
count_both : {A : Type 0} (f : A → Bool) (xs : List A) → count_if f xs + count_if (λ x. not (f x)) xs ≡ length xs
unfolding count_if
count_both f [] = refl
count_both f (x ∷ xs) = go (f x) (count_both f xs)
  where
    go : (b : Bool) → count_if f xs + count_if (λ x. not (f x)) xs ≡ length xs
        → cond b (suc (count_if f xs)) (count_if f xs) + cond (not b) (suc (count_if (λ x. not (f x)) xs)) (count_if (λ x. not (f x)) xs) ≡ suc (length xs)
    go true e = omega arith
    go false e = omega arith

-- Every row is accepted or failed.
pub rows_both : (box : Aabb) (patches : List Patch) (n : ℕ) → (body_sums box patches n).accepted + (body_sums box patches n).failed ≡ length patches
unfolding body_sums
rows_both box patches n = count_both (λ p. is_accepted (failure_of box p)) patches
