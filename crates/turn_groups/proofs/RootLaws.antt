-- Laws of settling all groups: one step of the definition's walks, where each row starts, and what the stages leave. Assumes nothing.
use mathlib.Core.Path.{◌≡◌, refl, sym, ap, ◌∙◌}
use mathlib.Core.Bool.{Bool, true, false, not, ◌||◌}
use mathlib.Core.List.{List, [], ◌∷◌}
use Prim.Native.Nat.{ℕ, suc, ◌+◌, ◌-◌, ◌*◌, ◌≤◌, ◌<◌}
use native.Mathlib.Nat.{mul-le-mul_right}
use native.Mathlib.Omega.{arith}
use lib.ListN.{length, get_or, take, drop, set, replicate, drop_of_length-le}
use lib.Seq.{drop-cons}
use lib.Dec.{eqb}
use lib.Ieee.{Float}
use borrow.Author.Tests.{eq-eqb, ne_eqb}
use borrow.Rule.Slice.PartMut.{mid_of, put_mid, take_put, same_len_mid}
use Rattle.lists.specs.Stretches.{front_at, front_less, stretch_kept, part_at}
use Rattle.body_rows.specs.Body.{Patch, rows_of}
use Rattle.body_rows.specs.Rows.{Starts, row_at, vertices_before, indices_before}
use Rattle.body_rows.specs.Patches.{no_patch, length_patches, shapes}
use Rattle.turn_walk.specs.Walk.{Pair, unvisited, plain, walk}
use Rattle.turn_walk.specs.Uses.{Uses, pairs_by}
use Rattle.turn_walk.specs.Area.{queue_at, colours_at, area_end, uses_of}
use Rattle.turn_walk.specs.Chains.{Chained, Paired}
use Rattle.turn_walk.specs.Group.{colours_of, Colours, Uncoloured, begun, walk_from}
use Rattle.turn_walk.specs.Frames.{within_none}
use Rattle.turn_walk.specs.Links.{pairs_uses, paired_of, paired_kept}
use Rattle.turn_walk.specs.Kept.{colour_at, colours_kept, paired_uncoloured, uses_uncoloured}
use Rattle.turn_definition.specs.Groups.{Group, Walks, add_group, walks_from}
use Rattle.turn_definition.specs.Inversion.{patch_at}
use Rattle.turn_inversion.specs.Measured.{vertex_bases_at, index_bases_at, bases_end, Measurable}
use Rattle.turn_groups.specs.Settled.{Settleable, Settled}
use Rattle.turn_groups.specs.Walked.{walks_over, RootReady, RootSettled, GroupsReady, BasesReady, BasesLaid, Walkable, GroupsWalked}
use Rattle.turn_inversion.specs.RowPatch.{patch_length}
use Rattle.turn_groups.proofs.GroupLaws.{measurable_kept}

-- ---- one step of the definition

module _ (patches : List Patch) (pairs : List Pair) (k : ℕ) (s : Walks) (l : k < length patches) where
  -- the patches from row k on
  here : patch_at patches k ∷ drop (k + 1) patches ≡ drop k patches
  unfolding patch_at
  here =
      let e : k + 1 ≡ suc k = omega arith in
      ap (λ j. get_or patches k no_patch ∷ drop j patches) e ∙ sym (drop-cons patches k no_patch l)

  -- the walks with the group of row k
  abbrev rooted : Walks
  rooted = add_group patches s.groups (walk pairs (length patches) 0 (record { rows = k ∷ []; colours = set s.colours k plain; against = s.against }))

  -- row k by the test of the definition
  step : (b : Bool) → (eqb (length (patch_at patches k).indices) 0 || not (eqb (get_or s.colours k unvisited) unvisited)) ≡ b
      → walks_from patches pairs (k + 1) (drop (k + 1) patches) (elim b [ true ↦ s | false ↦ rooted ]) ≡ walks_from patches pairs k (drop k patches) s
  unfolding walks_from
  step b h =
      let e : k + 1 ≡ suc k = omega arith in
      ap (λ j. walks_from patches pairs j (drop (k + 1) patches) (elim b [ true ↦ s | false ↦ rooted ])) e
      ∙ go b
      ∙ ap (λ t. elim t [ true ↦ walks_from patches pairs (suc k) (drop (k + 1) patches) s | false ↦ walks_from patches pairs (suc k) (drop (k + 1) patches) rooted ]) (sym h)
      ∙ ap (λ l. walks_from patches pairs k l s) here
    where
      go : (b : Bool) → walks_from patches pairs (suc k) (drop (k + 1) patches) (elim b [ true ↦ s | false ↦ rooted ])
          ≡ elim b [ true ↦ walks_from patches pairs (suc k) (drop (k + 1) patches) s | false ↦ walks_from patches pairs (suc k) (drop (k + 1) patches) rooted ]
      go true = refl
      go false = refl

  -- a row of no indices is no root
  skip_empty : length (patch_at patches k).indices ≡ 0 → walks_from patches pairs (k + 1) (drop (k + 1) patches) s ≡ walks_from patches pairs k (drop k patches) s
  skip_empty e = step true (rw (eq-eqb (length (patch_at patches k).indices) 0 e))

  -- nor is one that a walk has met
  skip_visited : (get_or s.colours k unvisited ≡ unvisited → ⊥) → walks_from patches pairs (k + 1) (drop (k + 1) patches) s ≡ walks_from patches pairs k (drop k patches) s
  skip_visited e = step true (rw (ne_eqb (get_or s.colours k unvisited) unvisited e) (go (eqb (length (patch_at patches k).indices) 0)))
    where
      go : (b : Bool) → (b || true) ≡ true
      go true = refl
      go false = refl

  -- any other is
  take_root : (length (patch_at patches k).indices ≡ 0 → ⊥) → get_or s.colours k unvisited ≡ unvisited
      → walks_from patches pairs (k + 1) (drop (k + 1) patches) rooted ≡ walks_from patches pairs k (drop k patches) s
  take_root e f = step false (rw (ne_eqb (length (patch_at patches k).indices) 0 e, eq-eqb (get_or s.colours k unvisited) unvisited f))

-- a patch for each row
patches_many : {table : List ℕ} {ps : List Float} {is W : List ℕ} {n m : ℕ} → Measurable table ps is W n m → length (shapes table ps is) ≡ m
patches_many {table} {ps} {is} g = length_patches (rows_of table) ps [] is ∙ g.count

-- ---- row k as a root

module _ {table : List ℕ} {ps : List Float} {is W : List ℕ} {n m k a : ℕ} (r : RootReady table ps is W n m k a) where
  -- row k has a patch
  low : k < length (shapes table ps is)
  low = omega (arith, patches_many r.given, r.row)

  -- the patch of row k has as many indices as the row says
  held : length (patch_at (shapes table ps is) k).indices ≡ (row_at table k).indices
  held = patch_length (record { given = r.given; row = r.row })

  -- row k is no root, and nothing was written
  kept : ((g : List Group)
      → walks_from (shapes table ps is) (pairs_by (uses_of n W)) (k + 1) (drop (k + 1) (shapes table ps is)) (record { groups = g; colours = colours_of n m W; against = a })
      ≡ walks_from (shapes table ps is) (pairs_by (uses_of n W)) k (drop k (shapes table ps is)) (record { groups = g; colours = colours_of n m W; against = a }))
      → RootSettled table ps is n m k a W W a
  kept e = record { after = λ g. g; goes_on = e; known = r.known; few = omega arith; within = within_none (queue_at n m) (area_end n m) W }

  -- a row of no indices
  pub root_empty : {count : ℕ} → count ≡ (row_at table k).indices → count ≡ 0 → RootSettled table ps is n m k a W W a
  root_empty e z = kept (λ g. skip_empty (shapes table ps is) (pairs_by (uses_of n W)) k (record { groups = g; colours = colours_of n m W; against = a }) low (held ∙ sym e ∙ z))

  -- a row that a walk has met
  pub root_visited : {colour : ℕ} → colour ≡ get_or (colours_of n m W) k unvisited → (colour ≡ 0 → ⊥) → RootSettled table ps is n m k a W W a
  root_visited e z = kept (λ g. skip_visited (shapes table ps is) (pairs_by (uses_of n W)) k (record { groups = g; colours = colours_of n m W; against = a }) low (λ q. z (e ∙ q)))

  -- any other row can be settled
  pub root_fresh : {colour : ℕ} → colour ≡ get_or (colours_of n m W) k unvisited → colour ≡ 0 → Settleable table ps is W n m k a
  root_fresh e z =
      record {
        given = r.given;
        rooted = record { at = record { paired = r.paired; known = r.known; inside = r.row; fresh = sym (colour_at n m W k r.row) ∙ sym e ∙ z }; few = r.few };
      }

  -- and is
  pub root_settled : {count colour against : ℕ} {E : List ℕ} → count ≡ (row_at table k).indices → (count ≡ 0 → ⊥) → colour ≡ get_or (colours_of n m W) k unvisited → colour ≡ 0
      → Settled table ps is n m k a W E against → RootSettled table ps is n m k a W E against
  unfolding add_group
  root_settled {count} {colour} {against} {E} e y f z s =
      record {
        after = λ g. (add_group (shapes table ps is) g (walk_from n m k a W)).groups;
        goes_on = λ g.
            (λ i. walks_from (shapes table ps is) (pairs_by (uses_of n W)) (k + 1) (drop (k + 1) (shapes table ps is))
            (record { groups = (add_group (shapes table ps is) g (walk_from n m k a W)).groups; colours = s.colours i; against = s.total i }))
            ∙ ap (λ j. walks_from (shapes table ps is) (pairs_by (uses_of n W)) (k + 1) (drop (k + 1) (shapes table ps is))
            (add_group (shapes table ps is) g (walk (pairs_by (uses_of n W)) j 0 (begun n m k a W)))) (sym (patches_many r.given))
            ∙ take_root (shapes table ps is) (pairs_by (uses_of n W)) k (record { groups = g; colours = colours_of n m W; against = a }) low (λ q. y (e ∙ sym held ∙ q)) (sym f ∙ z);
        known = s.known;
        few = s.few;
        within = s.within;
      }

-- ---- all rows as roots

-- the rows before k are done: the definition's walks go on at row k with what stands in E
pub record Walking (table : List ℕ) (ps : List Float) (is : List ℕ) (n m k : ℕ) (W E : List ℕ) (against : ℕ) : Type 0 where
  pub groups : List Group
  pub goes_on : walks_from (shapes table ps is) (pairs_by (uses_of n W)) k (drop k (shapes table ps is)) (record { groups = groups; colours = colours_of n m E; against = against })
      ≡ walks_over (shapes table ps is) (pairs_by (uses_of n W))
  pub given : Measurable table ps is E n m
  pub paired : Paired n m E
  pub known : Colours n m E
  pub uses : uses_of n E ≡ uses_of n W
  pub long : length E ≡ length W
  pub low : k ≤ m
  pub few : against ≤ k * 3221225472

module _ {table : List ℕ} {ps : List Float} {is W : List ℕ} {n m : ℕ} (r : GroupsReady table ps is W n m) where
  -- a contradiction for each use from each row
  product : m * n ≤ 3221225472
  product =
      let a : m ≤ 4096 = omega (arith, r.given.rows.few, r.given.count) in
      omega (arith, mul-le-mul_right n a, r.uses_few)

  -- no row is done yet
  pub walking_none : Walking table ps is n m 0 W W 0
  walking_none =
      record {
        groups = [];
        goes_on = ap (λ c. walks_from (shapes table ps is) (pairs_by (uses_of n W)) 0 (shapes table ps is) (record { groups = []; colours = c; against = 0 }))
            (r.colours ∙ ap (λ j. replicate j unvisited) (sym (patches_many r.given)));
        given = r.given;
        paired = r.paired;
        known = r.known;
        uses = refl;
        long = refl;
        low = omega arith;
        few = omega arith;
      }

  module _ {E : List ℕ} {k against : ℕ} (w : Walking table ps is n m k W E against) where
    -- what row k as a root asks holds
    pub walking_root : k < m → RootReady table ps is E n m k against
    walking_root l =
        record {
          given = w.given;
          paired = w.paired;
          known = w.known;
          row = l;
          few = omega (arith, w.few, product, r.given.rows.few, r.given.count);
        }

    -- row k is done too
    pub walking_more : {F : List ℕ} {more : ℕ} → k < m → RootSettled table ps is n m k against E F more → length F ≡ length E → Walking table ps is n m (k + 1) W F more
    walking_more {F} {more} l s e =
        record {
          groups = s.after w.groups;
          goes_on =
              ap (λ (u : Uses). walks_from (shapes table ps is) (pairs_by u) (k + 1) (drop (k + 1) (shapes table ps is))
              (record { groups = s.after w.groups; colours = colours_of n m F; against = more })) (sym w.uses)
              ∙ s.goes_on w.groups
              ∙ ap (λ (u : Uses). walks_from (shapes table ps is) (pairs_by u) k (drop k (shapes table ps is)) (record { groups = w.groups; colours = colours_of n m E; against = against })) w.uses
              ∙ w.goes_on;
          given = measurable_kept w.given s.within.rest e;
          paired = paired_kept w.paired s.within.front e;
          known = s.known;
          uses = pairs_uses n m E F s.within.front ∙ w.uses;
          long = e ∙ w.long;
          low = omega arith;
          few = omega (arith, w.few, s.few, product);
        }

    -- all rows are done
    pub walking_all : m ≤ k → GroupsWalked table ps is n m W E against
    unfolding walks_from
    walking_all l =
        let q : record { groups = w.groups; colours = colours_of n m E; against = against } ≡ walks_over (shapes table ps is) (pairs_by (uses_of n W)) =
        ap (λ p. walks_from (shapes table ps is) (pairs_by (uses_of n W)) k p (record { groups = w.groups; colours = colours_of n m E; against = against }))
        (sym (drop_of_length-le (shapes table ps is) {i = k} (omega (arith, patches_many r.given)))) ∙ w.goes_on in
        record { colours = ap (λ (s : Walks). s.colours) q; total = ap (λ (s : Walks). s.against) q }

-- ---- where rows start

module _ {table W ys : List ℕ} {n m : ℕ} (r : BasesReady table W n m) (v : Starts vertices_before table (mid_of (vertex_bases_at n m) (index_bases_at n m - vertex_bases_at n m) W) ys)
    (ey : length ys ≡ length (mid_of (vertex_bases_at n m) (index_bases_at n m - vertex_bases_at n m) W)) where
  -- the words with where vertices start
  abbrev Mid : List ℕ
  Mid = put_mid (vertex_bases_at n m) (index_bases_at n m - vertex_bases_at n m) W ys

  -- they are as many
  mid_long : length Mid ≡ length W
  mid_long = same_len_mid (vertex_bases_at n m) (index_bases_at n m - vertex_bases_at n m) W ys ey

  module _ {zs : List ℕ} (i : Starts indices_before table (mid_of (index_bases_at n m) (bases_end n m - index_bases_at n m) Mid) zs)
      (ez : length zs ≡ length (mid_of (index_bases_at n m) (bases_end n m - index_bases_at n m) Mid)) where
    -- and with where indices start
    abbrev Out : List ℕ
    Out = put_mid (index_bases_at n m) (bases_end n m - index_bases_at n m) Mid zs

    -- those before them are as they were
    out_front : take (index_bases_at n m) Out ≡ take (index_bases_at n m) Mid
    out_front = take_put (index_bases_at n m) (bases_end n m - index_bases_at n m) Mid zs (omega (arith, mid_long, r.room))

    -- both regions are laid
    pub bases_laid : BasesLaid table n m W Out
    bases_laid =
        record {
          vertices = λ k l.
              front_at (index_bases_at n m) (vertex_bases_at n m + k) Mid Out 0 out_front (omega arith)
              ∙ part_at (vertex_bases_at n m) (index_bases_at n m) W ys (omega arith) (omega (arith, r.room)) ey k 0 (omega arith)
              ∙ v.each k (omega (arith, r.count));
          indices = λ k l. part_at (index_bases_at n m) (bases_end n m) Mid zs (omega arith) (omega (arith, mid_long, r.room)) ez k 0 (omega arith) ∙ i.each k (omega (arith, r.count));
          front = front_less (area_end n m) (index_bases_at n m) Mid Out out_front (omega arith) ∙ take_put (vertex_bases_at n m) (index_bases_at n m - vertex_bases_at n m) W ys (omega (arith, r.room));
        }

-- the same, where the regions stand at v and i, and end at e
pub bases_laid_at : {table W ys zs : List ℕ} {n m v i e : ℕ} → v ≡ vertex_bases_at n m → i ≡ index_bases_at n m → e ≡ bases_end n m → BasesReady table W n m
    → Starts vertices_before table (mid_of v (i - v) W) ys → length ys ≡ length (mid_of v (i - v) W)
    → Starts indices_before table (mid_of i (e - i) (put_mid v (i - v) W ys)) zs → length zs ≡ length (mid_of i (e - i) (put_mid v (i - v) W ys))
    → BasesLaid table n m W (put_mid i (e - i) (put_mid v (i - v) W ys) zs)
bases_laid_at ev ei ee r sv lv si li =
    rw (ev, ei, ee) (bases_laid r (rw (ev, ei) at sv) (rw (ev, ei) at lv) (rw (ev, ei, ee) at si) (rw (ev, ei, ee) at li))

-- ---- the stages

module _ {table : List ℕ} {ps : List Float} {is W X Y Z : List ℕ} {n m : ℕ} (g : Walkable table ps is W n m) (c : Chained n m 0 W X) (ex : length X ≡ length W) (u : Uncoloured n m X Y)
    (ey : length Y ≡ length X) (b : BasesLaid table n m Y Z) where
  -- the words of the pairs are as they were
  laid_front : take (queue_at n m) Z ≡ take (queue_at n m) Y
  laid_front = front_less (queue_at n m) (area_end n m) Y Z b.front (omega arith)

  -- all groups can be settled
  pub groups_ready : length Z ≡ length Y → GroupsReady table ps is Z n m
  groups_ready ez =
      record {
        given =
            record {
              rows = g.rows;
              count = g.count;
              all_positions = g.all_positions;
              all_indices_lem = g.all_indices_lem;
              indices_few = g.indices_few;
              inside = g.inside;
              room = omega (arith, g.room);
              vertex_bases = b.vertices;
              index_bases = b.indices;
            };
        paired = paired_kept (paired_uncoloured (paired_of (record { room = omega (arith, g.room); sound = g.sound }) c ex) u ey) laid_front ez;
        known = colours_kept u.known b.front;
        colours = stretch_kept (colours_at n m) m (area_end n m) Y Z b.front (omega arith) ∙ u.colours;
        uses_few = g.uses_few;
      }

  -- and the pairs are those of the uses that stood there
  pub groups_walked : {E : List ℕ} {against : ℕ} → GroupsWalked table ps is n m Z E against → GroupsWalked table ps is n m W E against
  groups_walked {E} {against} w =
      let e : uses_of n Z ≡ uses_of n W = pairs_uses n m Y Z laid_front ∙ uses_uncoloured u ∙ c.uses in
      record {
        colours = w.colours ∙ ap (λ (s : Uses). (walks_over (shapes table ps is) (pairs_by s)).colours) e;
        total = w.total ∙ ap (λ (s : Uses). (walks_over (shapes table ps is) (pairs_by s)).against) e;
      }
