-- Laws of the page: when it is refused, and a body added. Assumes nothing.
use mathlib.Core.Path.{◌≡◌, refl, sym, ap, ◌∙◌}
use mathlib.Core.Bool.{Bool, true, false, ◌||◌}
use mathlib.Core.List.{List, [], ◌∷◌}
use Prim.Native.Nat.{ℕ, ◌+◌, ◌-◌, ◌*◌, ◌≤◌, ◌<◌}
use native.Mathlib.Omega.{arith}
use lib.ListN.{get_or}
use lib.Dec.{leb, ltb}
use borrow.Author.Tests.{ltb-false, leb-false, le-leb, lt-leb}
use Rattle.std.specs.List.{list_any}
use Rattle.lists.specs.Lists.{any}
use Rattle.lists.specs.Any.{any_none}
use Rattle.lists.specs.Both.{or_left, or_right}
use Rattle.report_definition.specs.declared.Page.{Page}
use Rattle.report_definition.specs.Page.{share_of, plus, sums_of, page_with}
use Rattle.report_definition.specs.Report.{bad_page, counts_in, most_bodies, most_of_body}
use Rattle.report_definition.specs.Limits.{Within}
use Rattle.report_page.specs.declared.divisor.Share as told
use Rattle.report_page.specs.declared.counts.RowCounts.{RowCounts}
use Rattle.report_page.specs.Shares.{share_in}
use Rattle.report_page.specs.Adding.{PageReady, sums_with}

-- `any` as the library has it
any_list : (f : ℕ → Bool) (xs : List ℕ) → list_any f xs ≡ any f xs
unfolding any
any_list f [] = refl
any_list f (x ∷ xs) = go (f x) (any_list f xs)
  where
    go : (b : Bool) {r s : Bool} → r ≡ s → (b || r) ≡ elim b [ true ↦ true | false ↦ s ]
    go true e = refl
    go false e = e

-- ---- 67

module _ (p : Page) where
  -- a page with too many bodies
  pub bad_full : most_bodies ≤ p.bodies → bad_page p ≡ true
  unfolding bad_page
  bad_full h = ap (λ (b : Bool). b || any (λ n. ltb (most_of_body * p.bodies) n) (counts_in p)) (le-leb most_bodies p.bodies h)

  -- another is decided by its counts
  pub bad_counts : p.bodies < most_bodies → bad_page p ≡ list_any (λ n. ltb (most_of_body * p.bodies) n) (counts_in p)
  unfolding bad_page
  bad_counts h =
      ap (λ (b : Bool). b || any (λ n. ltb (most_of_body * p.bodies) n) (counts_in p)) (lt-leb most_bodies p.bodies h)
      ∙ sym (any_list (λ n. ltb (most_of_body * p.bodies) n) (counts_in p))

  -- a page that 67 accepts has fewer bodies than the most
  pub good_few : bad_page p ≡ false → p.bodies < most_bodies
  unfolding bad_page
  good_few h = leb-false most_bodies p.bodies (or_left (leb most_bodies p.bodies) _ h)

  -- and no count above the limits
  pub good_within : bad_page p ≡ false → Within (sums_of p)
  unfolding bad_page
  good_within h =
      record {
        accepted = ltb-false most p.accepted (low 0 (omega arith));
        failed = ltb-false most p.failed (low 1 (omega arith));
        triangles = ltb-false most p.triangles (low 2 (omega arith));
        vertices = ltb-false most p.vertices (low 3 (omega arith));
        empty = ltb-false most p.empty (low 4 (omega arith));
        upstream = ltb-false most p.upstream (low 5 (omega arith));
        escaped = ltb-false most p.escaped (low 6 (omega arith));
        listed = ltb-false most p.listed (low 7 (omega arith));
      }
    where
      most : ℕ
      most = most_of_body * p.bodies

      low : (k : ℕ) → k < 8 → ltb most (get_or (counts_in p) k 0) ≡ false
      low k l = any_none (λ n. ltb most n) (counts_in p) 0 (or_right (leb most_bodies p.bodies) _ h) k l

-- ---- a body added

-- no number of the page passes 64 bits
pub record Room (p : Page) (c : RowCounts) (faces new : ℕ) : Type 0 where
  pub bodies : p.bodies + 1 < 18446744073709551616
  pub accepted : p.accepted + c.accepted < 18446744073709551616
  pub failed : p.failed + (faces - c.accepted) < 18446744073709551616
  pub all : p.accepted + c.accepted + (p.failed + (faces - c.accepted)) < 18446744073709551616
  pub triangles : p.triangles + c.triangles < 18446744073709551616
  pub vertices : p.vertices + c.vertices < 18446744073709551616
  pub empty : p.empty + c.empty < 18446744073709551616
  pub upstream : p.upstream + c.upstream < 18446744073709551616
  pub escaped : p.escaped + c.escaped < 18446744073709551616
  pub listed : p.listed + new < 18446744073709551616

-- a page that 67 accepts has room for a body within the limits
pub page_room : {p : Page} {c : RowCounts} {faces listed : ℕ} → PageReady p c faces listed → Room p c faces listed
page_room {p} {c} {faces} {listed} g =
    let few = good_few p g.good in
    let low = good_within p g.good in
    let w = g.within in
    record {
      bodies = omega arith;
      accepted = omega (arith, low.accepted, w.accepted);
      failed = omega (arith, low.failed, w.failed);
      all = omega (arith, low.accepted, w.accepted, low.failed, w.failed);
      triangles = omega (arith, low.triangles, w.triangles);
      vertices = omega (arith, low.vertices, w.vertices);
      empty = omega (arith, low.empty, w.empty);
      upstream = omega (arith, low.upstream, w.upstream);
      escaped = omega (arith, low.escaped, w.escaped);
      listed = omega (arith, low.listed, w.listed);
    }

-- the page with the share that the code makes
pub page_made : (p : Page) (c : RowCounts) (faces listed : ℕ) (s : told.Share)
    → share_in s ≡ share_of (p.accepted + c.accepted) (p.accepted + c.accepted + (p.failed + (faces - c.accepted)))
    → record {
      bodies = p.bodies + 1;
      accepted = p.accepted + c.accepted;
      failed = p.failed + (faces - c.accepted);
      triangles = p.triangles + c.triangles;
      vertices = p.vertices + c.vertices;
      empty = p.empty + c.empty;
      upstream = p.upstream + c.upstream;
      escaped = p.escaped + c.escaped;
      listed = p.listed + listed;
      share_accepted = s.accepted;
      share_faces = s.faces;
    }
    ≡ page_with (plus (sums_of p) (sums_with c faces listed))
page_made p c faces listed s e =
    λ j. record {
      bodies = p.bodies + 1;
      accepted = p.accepted + c.accepted;
      failed = p.failed + (faces - c.accepted);
      triangles = p.triangles + c.triangles;
      vertices = p.vertices + c.vertices;
      empty = p.empty + c.empty;
      upstream = p.upstream + c.upstream;
      escaped = p.escaped + c.escaped;
      listed = p.listed + listed;
      share_accepted = (e j).accepted;
      share_faces = (e j).faces;
    }
