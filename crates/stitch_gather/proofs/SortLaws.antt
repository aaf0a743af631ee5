-- Laws of gathering as a whole: the words of the points are cleared, the vertices that stand for points are listed and sorted by name. Assumes nothing.
use mathlib.Core.Path.{◌≡◌, refl, sym, ap, ◌∙◌, subst}
use mathlib.Core.Bool.{true}
use mathlib.Core.List.{List, [], ◌∷◌, map}
use Prim.Native.Nat.{ℕ, zero, suc, ◌+◌, ◌-◌, ◌*◌, ◌<◌, ◌≤◌}
use native.Mathlib.Omega.{arith}
use lib.ListN.{length, get_or, take, drop, replicate, length-map, length-replicate, get_or-replicate}
use lib.Seq.{ext_get_or, get_or-take, sets, length-sets}
use lib.Dec.{ltb}
use borrow.Author.Tests.{lt-ltb, ltb-true}
use Rattle.lists.specs.Members.{has_item}
use Rattle.lists.specs.Rising.{Rising, rising_has}
use Rattle.lists.specs.Sets.{take_sets, drop_sets, get_d_sets_in}
use Rattle.lists.specs.Stretches.{front_at, front_less, rest_less, stretch_at, stretch_kept}
use Rattle.slice_pairs.specs.Rearranged.{Rearranged, same_self, same_turned, same_then, same_length, same_map, same_each}
use Rattle.slice_pairs.specs.Rising.{Rises, rises_only}
use Rattle.slice_pairs.specs.Pairs.{pair_of, pairs_of, pairs_in, PairsSorted, pairs_at}
use Rattle.join_definition.specs.Join.{joined}
use Rattle.body_rows.specs.Body.{rows_of}
use Rattle.stitch_loose_points.specs.Listed.{body_vertices, name_in, Listed}
use Rattle.stitch_gather.specs.Standing.{mark_of, standing_in, names_of, Standing, ListReady, ListStood}
use Rattle.stitch_gather.specs.Gathering.{Gatherable, RowsGathered, Gathered}
use Rattle.stitch_gather.proofs.StandLaws.{map_at, stretch_long, standing_long, standing_at}

-- ---- vertices with their names

-- a vertex behind its name, in one number
abbrev named : List ℕ → ℕ → ℕ
named ns x = pair_of (get_or ns x 0) x

-- vertices and their names as pairs
named_pairs : (ns R : List ℕ) → pairs_of (names_of ns R) R ≡ map (named ns) R
unfolding pairs_of
named_pairs ns [] = refl
named_pairs ns (x ∷ xs) = ap (λ (l : List ℕ). named ns x ∷ l) (named_pairs ns xs)

-- of numbers that rise a later one is higher
rising_at : (low : ℕ) (xs : List ℕ) → Rising low xs → (i j : ℕ) → i < j → j < length xs → get_or xs i 0 < get_or xs j 0
rising_at low [] r i j a b = absurd (omega arith)
rising_at low (x ∷ xs) r i zero a b = absurd (omega arith)
rising_at low (x ∷ xs) r zero (suc j) a b = omega (arith, rising_has (get_or xs j 0) (suc x) xs r.1 (has_item xs j (omega arith)))
rising_at low (x ∷ xs) r (suc i) (suc j) a b = rising_at (suc x) xs r.1 i j (omega arith) (omega arith)

module _ {v at n : ℕ} {W R : List ℕ} (s : Standing v at n W R) (room : at + n ≤ length W) where
  -- there is one for each listed point
  count_is : length R ≡ n
  count_is = same_length s.same ∙ standing_long W v at n room

  -- each is one of the vertices
  vertex_low : (j : ℕ) → j < n → get_or R j 0 < v
  vertex_low j l = ltb-true (get_or R j 0) v (same_each (λ (x : ℕ). ltb x v) 0 s.same low j (omega (arith, count_is)))
    where
      low : (k : ℕ) → k < length (standing_in W v at n) → ltb (get_or (standing_in W v at n) k 0) v ≡ true
      low k b =
          let c : k < n = omega (arith, standing_long W v at n room) in
          lt-ltb (get_or (standing_in W v at n) k 0) v
          (omega (arith, standing_at W v at n room k c, s.vertex (get_or W (at + k) 0) (s.low k c), s.set k c))

  -- by name they rise
  name_rises : (i j : ℕ) → i < j → j < n → get_or (take v W) (get_or R i 0) 0 < get_or (take v W) (get_or R j 0) 0
  name_rises i j a b =
      omega (
        arith,
        rising_at 0 (names_of (take v W) R) s.rising i j a (omega (arith, count_is, length-map R (λ (x : ℕ). get_or (take v W) x 0))),
        map_at (λ (x : ℕ). get_or (take v W) x 0) R i (omega (arith, count_is)),
        map_at (λ (x : ℕ). get_or (take v W) x 0) R j (omega (arith, count_is)),
      )

  -- so they do behind their names
  named_rises : v ≤ 262144 → Rises (map (named (take v W)) R)
  named_rises few = record { up = up }
    where
      long : length (map (named (take v W)) R) ≡ n
      long = length-map R (named (take v W)) ∙ count_is

      up : (i j : ℕ) → i < j → j < length (map (named (take v W)) R) → get_or (map (named (take v W)) R) i 0 ≤ get_or (map (named (take v W)) R) j 0
      up i j a b =
          omega (
            arith,
            map_at (named (take v W)) R i (omega (arith, long, count_is)),
            map_at (named (take v W)) R j (omega (arith, long, count_is)),
            name_rises i j a (omega (arith, long)),
            vertex_low i (omega (arith, long)),
          )

  -- they can be listed
  pub list_ready : {ts : ℕ} → 3 * v ≤ at → at + n ≤ ts → ts + n ≤ length W → ListReady v at ts n W
  list_ready a b c =
      record { behind = a; apart = b; room = c; low = s.low; set = s.set; vertex = λ j l. s.vertex (get_or W (at + j) 0) (s.low j l) }

  -- sorted by name they are these
  module _ {ts : ℕ} {Z E : List ℕ} (few : v ≤ 262144) (l : ListStood v at ts n W Z) (p : PairsSorted at ts n Z E) (end : ts + n ≤ length E) (apart : at + n ≤ ts)
      (words : (k : ℕ) → get_or E k 0 < 18446744073709551616) where
    sorted_pairs : pairs_in E at ts n ≡ map (named (take v W)) R
    sorted_pairs =
        rises_only (pairs_in E at ts n) (map (named (take v W)) R) p.rises (named_rises few)
        (same_then (subst (λ (x : List ℕ). Rearranged (pairs_in E at ts n) x) listed p.same) (same_map (named (take v W)) (same_turned s.same)))
      where
        listed : pairs_in Z at ts n ≡ map (named (take v W)) (standing_in W v at n)
        listed = (λ i. pairs_of (l.names i) (l.list i)) ∙ named_pairs (take v W) (standing_in W v at n)

    sorted_at : (k : ℕ) → k < n → get_or E (at + k) 0 ≡ get_or R k 0
    sorted_at k b =
        let pair : pair_of (get_or E (ts + k) 0) (get_or E (at + k) 0) ≡ pair_of (get_or (take v W) (get_or R k 0) 0) (get_or R k 0) =
        sym (pairs_at E at ts n (omega arith) end k b) ∙ ap (λ (x : List ℕ). get_or x k 0) sorted_pairs ∙ map_at (named (take v W)) R k (omega (arith, count_is)) in
        omega (arith, words (at + k), vertex_low k b)

    sorted_list : take n (drop at E) ≡ R
    sorted_list =
        ext_get_or 0 (take n (drop at E)) R (long ∙ sym count_is)
        (λ k b. let c : k < n = omega (arith, long) in stretch_at at n E k 0 c ∙ sorted_at k c)
      where
        long : length (take n (drop at E)) ≡ n
        long = stretch_long E at n (omega arith)

    sorted_listed : v ≤ at → Listed v at n E
    sorted_listed behind =
        record {
          behind = behind;
          room = omega arith;
          below = λ j b. omega (arith, sorted_at j b, vertex_low j b);
          rising = λ j k a b. omega (arith, name j (omega arith), name k b, name_rises j k a b);
        }
      where
        name : (j : ℕ) → j < n → name_in E at j ≡ get_or (take v W) (get_or R j 0) 0
        name j b =
            ap (λ (x : ℕ). get_or E x 0) (sorted_at j b)
            ∙ front_at at (get_or R j 0) W E 0 (p.front ∙ l.front) (omega (arith, vertex_low j b))
            ∙ sym (get_or-take v W (get_or R j 0) 0 (vertex_low j b))

-- ---- the words of the points cleared

module _ {table is : List ℕ} {v at flags : ℕ} {W : List ℕ} (g : Gatherable table is v at flags W) {X : List ℕ} (e : X ≡ sets W (2 * v) (replicate (2 * v + v - 2 * v) 0)) where
  zeros_long : length (replicate {A = ℕ} (2 * v + v - 2 * v) 0) ≡ v
  zeros_long = length-replicate (2 * v + v - 2 * v) 0 ∙ (omega arith)

  clear_long : length X ≡ length W
  clear_long = ap length e ∙ length-sets W (2 * v) (replicate (2 * v + v - 2 * v) 0)

  clear_front : take (2 * v) X ≡ take (2 * v) W
  clear_front = ap (take (2 * v)) e ∙ take_sets W (2 * v) (replicate (2 * v + v - 2 * v) 0)

  clear_rest : (k : ℕ) → 3 * v ≤ k → drop k X ≡ drop k W
  clear_rest k l = ap (drop k) e ∙ drop_sets W (2 * v) (replicate (2 * v + v - 2 * v) 0) k (omega (arith, zeros_long))

  clear_names : take v X ≡ take v W
  clear_names = front_less v (2 * v) W X clear_front (omega arith)

  clear_mark : (f : ℕ) → f < v → mark_of X v f ≡ 0
  clear_mark f l =
      ap (λ (x : List ℕ). get_or x (2 * v + f) 0) e
      ∙ get_d_sets_in W (2 * v) (replicate (2 * v + v - 2 * v) 0) f 0 (omega (arith, zeros_long)) (omega (arith, g.behind, g.apart, g.room))
      ∙ get_or-replicate (2 * v + v - 2 * v) f 0 0 (omega arith)

  -- the rows can be gathered
  pub clear_gatherable : Gatherable table is v at flags X
  clear_gatherable =
      record {
        rows = g.rows;
        vertices = g.vertices;
        all = g.all;
        few = g.few;
        few_vertices = g.few_vertices;
        threes = g.threes;
        inside = g.inside;
        points = stretch_kept v v (2 * v) W X clear_front (omega arith) ∙ g.points ∙ ap joined (sym clear_names);
        behind = g.behind;
        apart = g.apart;
        room = omega (arith, g.room, clear_long);
      }

  -- no vertex stands for a point
  none_stands : Standing v at 0 X []
  none_stands =
      record {
        same = same_self [];
        rising = tt;
        low = λ j l. absurd (omega arith);
        set = λ j l. absurd (omega arith);
        apart = λ j k a b h. absurd (omega arith);
        listed = λ f l m. absurd (omega (arith, clear_mark f l));
        vertex = λ f l. omega (arith, clear_mark f l);
        first = λ f l m. absurd (omega (arith, clear_mark f l));
      }

  -- the loose vertices
  abbrev loose : List ℕ
  loose = body_vertices (take v W) 0 (take (length is) (drop flags W)) (rows_of table) is []

  module _ {n r : ℕ} {Y : List ℕ} (d : RowsGathered table is v at flags X Y r) (en : n ≡ length is) (ey : length Y ≡ length X) where
    all_stand : Standing v at r Y loose
    all_stand =
        subst (λ (x : List ℕ). Standing v at r Y x)
        (λ i. body_vertices (clear_names i) 0 (take (length is) (clear_rest flags (omega (arith, g.behind, g.apart)) i)) (rows_of table) is [])
        (d.stands none_stands)

    list_room : at + r ≤ length Y
    list_room = omega (arith, d.few, g.apart, g.room, clear_long)

    -- those that stand can be listed
    pub loose_ready : ListReady v at (at + n) r Y
    loose_ready = list_ready all_stand list_room (omega (arith, g.behind)) (omega (arith, d.few)) (omega (arith, d.few, g.apart, g.room, clear_long))

    module _ {Z : List ℕ} (l : ListStood v at (at + n) r Y Z) (ez : length Z ≡ length Y) where
      -- those that are listed and sorted are gathered
      pub all_gathered : {E : List ℕ} → PairsSorted at (at + n) r Z E → length E ≡ length Z → ((k : ℕ) → get_or E k 0 < 18446744073709551616) → Gathered table is v at flags W E r
      all_gathered {E} p ee words =
          record {
            list = sorted_list all_stand list_room g.few_vertices l p end apart words;
            listed = sorted_listed all_stand list_room g.few_vertices l p end apart words (omega (arith, g.behind));
            few = d.few;
            front =
                front_less (2 * v) at Y E (p.front ∙ l.front) (omega (arith, g.behind))
                ∙ d.front
                ∙ clear_front;
            rest =
                rest_less (at + n + r) flags Z E p.rest beyond
                ∙ rest_less (at + n + r) flags Y Z l.rest beyond
                ∙ rest_less (at + length is) flags X Y d.rest (omega (arith, g.apart))
                ∙ clear_rest flags (omega (arith, g.behind, g.apart));
          }
        where
          end : at + n + r ≤ length E
          end = omega (arith, d.few, g.apart, g.room, clear_long)

          apart : at + r ≤ at + n
          apart = omega (arith, d.few)

          beyond : at + n + r ≤ flags
          beyond = omega (arith, d.few, g.apart)
