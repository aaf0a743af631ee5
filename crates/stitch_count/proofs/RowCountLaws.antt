-- Laws of counting the splits of one row, as long as the new vertices pass no limit. Assumes nothing.
use mathlib.Core.Path.{◌≡◌, refl, sym, ap, ◌∙◌}
use mathlib.Core.Bool.{Bool, true}
use mathlib.Core.List.{List, ◌∷◌}
use Prim.Native.Nat.{ℕ, zero, suc, ◌+◌, ◌-◌, ◌*◌, ◌/◌, ◌%◌, ◌<◌, ◌≤◌}
use native.Mathlib.Decide.{dec_lt}
use native.Mathlib.Omega.{arith}
use lib.ListN.{length, get_or, take, drop}
use lib.Ieee.{Float}
use Rattle.lists.specs.Lists.{sum_of}
use Rattle.lists.specs.Stretches.{stretch_kept, front_at, front_less}
use Rattle.body_refusals.specs.TableChecks.{too_large}
use Rattle.stitch_count.specs.Views.{View, view_of, found_in, kept_in}
use Rattle.stitch_count.specs.Counting.{TriangleReady, view_in, TriangleCounted, views_in, RowReady, RowCounted}
use Rattle.stitch_count.specs.Limits.{within_limits}
use Rattle.stitch_count.specs.RowLaws.{stands_flags, views_three, views_none, triangle_ready}

-- ---- the views of a row in two areas

module _ (ps : List Float) (is : List ℕ) (sag : Float) (v list count flags base to : ℕ) (W E : List ℕ) (inside : to ≤ length is) (room : flags + to ≤ length W) (long : length E ≡ length W) where
  -- are the same if those of all triangles are
  views_same : (m k : ℕ) → k + 3 * m ≡ to
      → ((j : ℕ) → k ≤ j → j + 3 ≤ to → (to - j) % 3 ≡ 0 → view_in ps is sag v list count flags base j E ≡ view_in ps is sag v list count flags base j W)
      → views_in ps is sag v list count flags base k to E ≡ views_in ps is sag v list count flags base k to W
  views_same zero k e same = sym (views_none ps is sag v list count flags base k to E (omega arith)) ∙ views_none ps is sag v list count flags base k to W (omega arith)
  views_same (suc m) k e same =
      let three : k + 3 ≤ to = omega arith in
      let here : view_in ps is sag v list count flags base k E ≡ view_in ps is sag v list count flags base k W = same k (omega arith) three (omega arith) in
      let more : views_in ps is sag v list count flags base (k + 3) to E ≡ views_in ps is sag v list count flags base (k + 3) to W =
      views_same m (k + 3) (omega arith) (λ j a b c. same j (omega arith) b c) in
      views_three ps is sag v list count flags base k to E three (omega arith) inside
      ∙ (λ i. here i ∷ more i)
      ∙ sym (views_three ps is sag v list count flags base k to W three room inside)

-- ---- the row

-- the triangles before index k are counted: W became E
pub record Counting (ps : List Float) (is : List ℕ) (sag : Float) (v list count at ts flags base from to found kept : ℕ) (W : List ℕ) (total new k : ℕ) (E : List ℕ) : Type 0 where
  pub aligned : (to - k) % 3 ≡ 0
  pub low : from ≤ k
  pub high : k ≤ to
  pub views : views_in ps is sag v list count flags base from to E ≡ views_in ps is sag v list count flags base from to W
  pub found_is : total + found_in (views_in ps is sag v list count flags base k to W) ≡ found + found_in (views_in ps is sag v list count flags base from to W)
  pub kept_is : new + kept_in (views_in ps is sag v list count flags base k to W) ≡ kept + kept_in (views_in ps is sag v list count flags base from to W)
  pub rising : kept ≤ new
  pub found_low : total ≤ 2359296 * k
  pub kept_low : new ≤ 2359296 * k
  pub front : take (flags + from) E ≡ take (flags + from) W
  pub behind : (j : ℕ) → k ≤ j → flags + j < at → get_or E (flags + j) 0 ≡ get_or W (flags + j) 0
  pub rest : drop (ts + 3 * count) E ≡ drop (ts + 3 * count) W
  pub long : length E ≡ length W

module _ {ps : List Float} {is : List ℕ} {sag beyond : Float} {n v list count at ts flags order boxes top base vertices from to found kept : ℕ} {W : List ℕ}
    (g : RowReady ps is sag beyond n v list count at ts flags order boxes top base vertices from to found kept W) where
  -- none is counted yet
  pub counting_none : Counting ps is sag v list count at ts flags base from to found kept W found kept from W
  counting_none =
      record {
        aligned = g.whole;
        low = omega arith;
        high = g.ordered;
        views = refl;
        found_is = refl;
        kept_is = refl;
        rising = omega arith;
        found_low = g.found_low;
        kept_low = g.kept_low;
        front = refl;
        behind = λ j a b. refl;
        rest = refl;
        long = refl;
      }

  module _ {total new k : ℕ} {E : List ℕ} (c : Counting ps is sag v list count at ts flags base from to found kept W total new k E) where
    -- the flags end before the entries
    flags_room : flags + to ≤ at
    flags_room = omega (arith, g.inside, g.stands.behind)

    at_room : at ≤ length W
    at_room = omega (arith, g.stands.apart, g.stands.long)

    -- the counts are too large for a result
    pub counting_stopped : {b : Bool} → b ≡ too_large (v + new) (n + 3 * new) → b ≡ true → RowCounted ps is sag v list count at ts flags base from to found kept W E total new
    counting_stopped {b} e t =
        record {
          views = c.views;
          exact = λ x y. absurd (beyond_limits x y);
          found_is = λ x y. absurd (beyond_limits x y);
          most = omega (arith, c.kept_is);
          rising = c.rising;
          found_low = omega (arith, c.found_low, c.high);
          kept_low = omega (arith, c.kept_low, c.high);
          front = c.front;
          behind = λ j a l. c.behind j (omega (arith, c.high)) l;
          rest = c.rest;
        }
      where
        beyond_limits : v + new ≤ 262144 → length is + 3 * new ≤ 786432 → ⊥
        beyond_limits x y = within_limits (v + new) (n + 3 * new) x (omega (arith, g.all)) (sym e ∙ t)

    -- all are counted
    pub counting_all : to ≤ k → RowCounted ps is sag v list count at ts flags base from to found kept W E total new
    unfolding found_in kept_in sum_of
    counting_all l =
        let none = views_none ps is sag v list count flags base k to W l in
        record {
          views = c.views;
          exact = λ x y. omega (arith, c.kept_is, ap kept_in none);
          found_is = λ x y. omega (arith, c.found_is, ap found_in none);
          most = omega (arith, c.kept_is);
          rising = c.rising;
          found_low = omega (arith, c.found_low, c.high);
          kept_low = omega (arith, c.kept_low, c.high);
          front = c.front;
          behind = λ j a h. c.behind j (omega (arith, c.high)) h;
          rest = c.rest;
        }

    module _ (l : k < to) where
      three : k + 3 ≤ to
      three = omega (arith, c.aligned)

      before : take flags E ≡ take flags W
      before = front_less flags (flags + from) W E c.front (omega arith)

      -- the row in the area as it is now
      row_now : RowReady ps is sag beyond n v list count at ts flags order boxes top base vertices from to found kept E
      row_now =
          record {
            stands = stands_flags g.stands before c.rest c.long;
            ordered = g.ordered;
            whole = g.whole;
            inside = g.inside;
            all = g.all;
            few = g.few;
            below = g.below;
            vertices_low = g.vertices_low;
            found_low = g.found_low;
            kept_low = g.kept_low;
          }

      -- the next triangle can be split
      pub next_ready : TriangleReady ps is sag beyond n v list count at ts flags order boxes top base k E
      next_ready = triangle_ready row_now (record { aligned = c.aligned; low = c.low; high = c.high; front = refl; rest = refl; long = refl }) l

      -- a view by what it looks at
      view_by : (j : ℕ) (X Y : List ℕ) → take flags Y ≡ take flags X → get_or Y (flags + j) 0 ≡ get_or X (flags + j) 0 → get_or Y (flags + j + 1) 0 ≡ get_or X (flags + j + 1) 0
          → get_or Y (flags + j + 2) 0 ≡ get_or X (flags + j + 2) 0
          → view_in ps is sag v list count flags base j Y ≡ view_in ps is sag v list count flags base j X
      view_by j X Y e f0 f1 f2 =
          let names : take v Y ≡ take v X = front_less v flags X Y e (omega (arith, g.stands.listed.behind, g.stands.flags_behind)) in
          let listed : take count (drop list Y) ≡ take count (drop list X) = stretch_kept list count flags X Y e g.stands.flags_behind in
          λ i. view_of sag ps (names i) (listed i) base (f0 i) (f1 i) (f2 i) (record { a = get_or is j 0; b = get_or is (j + 1) 0; c = get_or is (j + 2) 0 })

      -- and by flags that are kept from an index on
      view_behind : (j : ℕ) (X Y : List ℕ) {h : ℕ} → take flags Y ≡ take flags X → ((i : ℕ) → h ≤ i → flags + i < at → get_or Y (flags + i) 0 ≡ get_or X (flags + i) 0) → h ≤ j → j + 3 ≤ to
          → view_in ps is sag v list count flags base j Y ≡ view_in ps is sag v list count flags base j X
      view_behind j X Y {h} e f a b =
          let one : flags + (j + 1) ≡ flags + j + 1 = omega arith in
          let two : flags + (j + 2) ≡ flags + j + 2 = omega arith in
          view_by j X Y e (f j a (omega (arith, flags_room)))
          (ap (λ (i : ℕ). get_or Y i 0) (sym one) ∙ f (j + 1) (omega arith) (omega (arith, flags_room)) ∙ ap (λ (i : ℕ). get_or X i 0) one)
          (ap (λ (i : ℕ). get_or Y i 0) (sym two) ∙ f (j + 2) (omega arith) (omega (arith, flags_room)) ∙ ap (λ (i : ℕ). get_or X i 0) two)

      module _ {x y : ℕ} {F : List ℕ} (d : TriangleCounted ps is sag v list count at ts flags base k E F x y) (lf : length F ≡ length E) where
        flags_front : take flags F ≡ take flags E
        flags_front = front_less flags (flags + k) E F d.front (omega arith)

        -- the view of any triangle is the same
        view_kept : (j : ℕ) → from ≤ j → j + 3 ≤ to → (to - j) % 3 ≡ 0 → view_in ps is sag v list count flags base j F ≡ view_in ps is sag v list count flags base j E
        view_kept j a b e = go (dec_lt j k) (dec_lt k j)
          where
            go : Dec (j < k) → Dec (k < j) → view_in ps is sag v list count flags base j F ≡ view_in ps is sag v list count flags base j E
            go (yes h) q =
                let three_before : j + 3 ≤ k = omega (arith, c.aligned, c.high) in
                view_by j E F flags_front (front_at (flags + k) (flags + j) E F 0 d.front (omega arith)) (front_at (flags + k) (flags + j + 1) E F 0 d.front (omega arith))
                (front_at (flags + k) (flags + j + 2) E F 0 d.front (omega arith))
            go (no h) (yes q) = view_behind j E F flags_front d.behind (omega (arith, c.aligned, c.high)) b
            go (no h) (no q) =
                let same : j ≡ k = omega arith in
                ap (λ (i : ℕ). view_in ps is sag v list count flags base i F) same ∙ d.view ∙ ap (λ (i : ℕ). view_in ps is sag v list count flags base i E) (sym same)

        row_kept : views_in ps is sag v list count flags base from to F ≡ views_in ps is sag v list count flags base from to E
        row_kept =
            views_same ps is sag v list count flags base to E F (omega (arith, g.inside, g.all)) (omega (arith, flags_room, at_room, c.long)) lf ((to - from) / 3) from
            (omega (arith, g.whole, g.ordered)) view_kept

        -- one triangle more is counted
        pub counting_more : Counting ps is sag v list count at ts flags base from to found kept W (total + x) (new + y) (k + 3) F
        unfolding found_in kept_in sum_of
        counting_more =
            let here : view_in ps is sag v list count flags base k E ≡ view_in ps is sag v list count flags base k W = view_behind k W E before c.behind (omega arith) three in
            let split = views_three ps is sag v list count flags base k to W three (omega (arith, flags_room, at_room)) (omega (arith, g.inside, g.all)) in
            let fx : x ≡ (view_in ps is sag v list count flags base k W).found = d.found_is ∙ ap (λ (z : View). z.found) here in
            let ky : y ≡ length (view_in ps is sag v list count flags base k W).kept = d.kept_is ∙ ap (λ (z : View). length z.kept) here in
            record {
              aligned = omega (arith, c.aligned);
              low = omega (arith, c.low);
              high = three;
              views = row_kept ∙ c.views;
              found_is = omega (arith, c.found_is, fx, ap found_in split);
              kept_is = omega (arith, c.kept_is, ky, ap kept_in split);
              rising = omega (arith, c.rising);
              found_low = omega (arith, c.found_low, d.few_found);
              kept_low = omega (arith, c.kept_low, d.few_kept);
              front = front_less (flags + from) (flags + k) E F d.front (omega (arith, c.low)) ∙ c.front;
              behind = λ j a b. d.behind j a b ∙ c.behind j (omega arith) b;
              rest = d.rest ∙ c.rest;
              long = lf ∙ c.long;
            }
