-- Laws of marking the open edges: the flags in the work area are those of the definition's uses. Assumes nothing.
use mathlib.Core.Path.{◌≡◌, refl, sym, ap, ◌∙◌}
use mathlib.Core.List.{List, [], ◌∷◌, map}
use Prim.Native.Nat.{ℕ, zero, suc, ◌+◌, ◌*◌, ◌<◌}
use native.Mathlib.Omega.{arith}
use lib.ListN.{length, get_or, take, drop, length-drop, length-replicate}
use lib.Seq.{length-take-le, ext_get_or}
use lib.Dec.{eqb}
use lib.Ieee.{Float}
use Rattle.lists.specs.Lists.{count_if}
use Rattle.lists.specs.Any.{each_copy}
use Rattle.lists.specs.Stretches.{front_less, stretch_at, stretch_kept, rest_less}
use Rattle.point_rules.specs.Rule.{names}
use Rattle.point_rules.specs.Points.{key}
use Rattle.body_rows.specs.Body.{Row, rows_of, patches_of}
use Rattle.join_definition.specs.Join.{joined, first_index}
use Rattle.join_definition.specs.Representatives.{rep_below, joined_at}
use Rattle.edge_uses.specs.Edges.{Use, uses_of}
use Rattle.edge_uses.specs.Named.{use_name, use_run}
use Rattle.edge_uses.specs.FirstUsers.{UsersReady, uses_in}
use Rattle.edge_uses.specs.Area.{uses_end, Layable}
use Rattle.edge_uses.proofs.AreaLaws.{uses_many, points_low, users_ready, uses_there}
use Rattle.edge_uses.proofs.UseLaws.{low_uses, get_d_map, length_named, edge_count}
use Rattle.edge_uses.specs.UseLaws.{no_use, Apart}
use Rattle.stitch_loose_points.specs.Open.{flags_at, body_uses, flag_of, flag_by, count_in, flag_in, Marked, BodyJoined, UsesCounted, FlagsReady, FlagsSet}
use Rattle.stitch_open_edges.proofs.FlagLaws.{flag_is}

-- one shell for all rows
abbrev one : Row → ℕ
one r = 0

-- it is each row's
zeros_at : (rows : List Row) (k : ℕ) → get_or (map one rows) k 0 ≡ 0
zeros_at [] k = refl
zeros_at (r ∷ rs) zero = refl
zeros_at (r ∷ rs) (suc k) = zeros_at rs k

-- a list that is mapped, item by item
mapped_at : (f : Use → ℕ) (us : List Use) (xs : List ℕ) → length xs ≡ length us → ((i : ℕ) → i < length us → get_or xs i 0 ≡ f (get_or us i no_use)) → xs ≡ map f us
mapped_at f us xs e h =
    ext_get_or 0 xs (map f us) (e ∙ sym (length_named f us)) (λ i l. let q : i < length us = omega arith in h i q ∙ sym (get_d_map f us i q))

module _ {table : List ℕ} {ps : List Float} {is W : List ℕ} {v m : ℕ} (g : Layable table ps is W v m) where
  -- the first vertex of each point
  abbrev points : List ℕ
  points = joined (names key ps)

  -- the uses of the body
  abbrev uses : List Use
  uses = body_uses table ps is

  -- their names tell their edges apart
  apart : Apart (λ s. s) uses
  apart = record { shells = λ i j li lj e. e; low = λ i l. low_uses one 0 points (patches_of (rows_of table) ps [] is) (points_low g) i }

  module _ {X : List ℕ} (b : BodyJoined ps v m W X) (long : length X ≡ length W) where
    shell_at : (k : ℕ) → k < m → get_or X (4 * v + k) 0 ≡ 0
    shell_at k l =
        sym (stretch_at (4 * v) m X k 0 l)
        ∙ ap (λ (p : List ℕ). get_or p k 0) b.shells
        ∙ each_copy (λ (x : ℕ). x ≡ 0) 0 0 m refl k (omega (arith, length-replicate {A = ℕ} m 0))

    -- the first users can be found
    pub users_found : UsersReady table is X v (4 * v) (4 * v + 4 * m)
    users_found = users_ready g X (4 * v) b.points long (omega arith) (λ k l. omega (arith, shell_at k l))

    -- what stands in the work area are the body's uses
    uses_are : uses_in table is X v (4 * v) ≡ uses
    uses_are = uses_there g X (4 * v) b.points long (omega arith) one (λ k l. shell_at k l ∙ sym (zeros_at (rows_of table) k))

    uses_long : length uses ≡ length is
    uses_long = sym (ap length uses_are) ∙ uses_many users_found

    module _ {Y : List ℕ} (u : UsesCounted table is X v (4 * v) (4 * v + 4 * m) Y) (y_long : length Y ≡ length X) where
      -- where the first uses stand
      abbrev at : ℕ
      at = 4 * v + 4 * m + length is

      -- the names of the uses
      abbrev ns : List ℕ
      ns = map use_name uses

      ns_many : length ns ≡ length is
      ns_many = length_named use_name uses ∙ uses_long

      first_at : (i : ℕ) → i < length is → get_or Y (at + i) 0 ≡ first_index ns i
      first_at i l =
          sym (stretch_at at (length is) Y i 0 l)
          ∙ ap (λ (s : List ℕ). get_or s i 0) (u.firsts ∙ ap (λ (us : List Use). joined (map use_name us)) uses_are)
          ∙ joined_at ns i (omega (arith, ns_many))

      first_low : (i : ℕ) → i < length is → first_index ns i < length is
      first_low i l = omega (arith, rep_below ns i (omega (arith, ns_many)), ns_many)

      -- the flags can be set
      pub flags_ready : FlagsReady Y at (length is)
      flags_ready = record { room = omega (arith, g.room, long, y_long); low = λ i l. omega (arith, first_at i l, first_low i l) }

      run_at : (i : ℕ) → i < length is → get_or Y (at + 2 * length is + i) 0 ≡ use_run (get_or uses i no_use)
      run_at i l =
          let place : at + 2 * length is + i ≡ 4 * v + 4 * m + 3 * length is + i = omega arith in
          ap (λ (k : ℕ). get_or Y k 0) place
          ∙ sym (stretch_at (4 * v + 4 * m + 3 * length is) (length is) Y i 0 l)
          ∙ ap (λ (s : List ℕ). get_or s i 0) (u.runs ∙ ap (map use_run) uses_are)
          ∙ get_d_map use_run uses i (omega (arith, uses_long))

      count_is : (i : ℕ) → i < length is → count_in Y at (length is) i ≡ uses_of uses (get_or uses i no_use)
      count_is i l =
          let place : at + length is + first_index ns i ≡ 4 * v + 4 * m + 2 * length is + first_index ns i = omega arith in
          ap (λ (k : ℕ). get_or Y (at + length is + k) 0) (first_at i l)
          ∙ ap (λ (k : ℕ). get_or Y k 0) place
          ∙ u.count (first_index ns i) (first_low i l)
          ∙ ap (λ (us : List Use). count_if (eqb (first_index ns i)) (joined (map use_name us))) uses_are
          ∙ edge_count uses apart i (omega (arith, uses_long))

      flag_at : (i : ℕ) → i < length is → flag_in Y at (length is) i ≡ flag_of uses (get_or uses i no_use)
      flag_at i l =
          ap (λ (k : ℕ). flag_by k (count_in Y at (length is) i)) (run_at i l)
          ∙ ap (flag_by (use_run (get_or uses i no_use))) (count_is i l)
          ∙ flag_is uses (get_or uses i no_use)

      module _ {E : List ℕ} (f : FlagsSet Y at (length is) E) (e_long : length E ≡ length Y) where
        flags_many : length (take (length is) (drop (flags_at v m (length is)) E)) ≡ length is
        flags_many = length-take-le (length is) (drop (flags_at v m (length is)) E) (omega (arith, length-drop (flags_at v m (length is)) E, g.room, long, y_long, e_long))

        mark_at : (i : ℕ) → i < length is → get_or (take (length is) (drop (flags_at v m (length is)) E)) i 0 ≡ flag_of uses (get_or uses i no_use)
        mark_at i l =
            let place : flags_at v m (length is) + i ≡ at + 2 * length is + i = omega arith in
            stretch_at (flags_at v m (length is)) (length is) E i 0 l
            ∙ ap (λ (k : ℕ). get_or E k 0) place
            ∙ f.flags i l
            ∙ flag_at i l

        -- what lies in front of the uses' names is as it was
        front : take v E ≡ take v X
        front = front_less v (at + 2 * length is) Y E f.front (omega arith) ∙ front_less v (4 * v + 4 * m) X Y u.front (omega arith)

        -- the open edges are marked
        pub marked : Marked table ps is v m W E
        marked =
            record {
              names = front ∙ b.words;
              points =
                  stretch_kept v v (at + 2 * length is) Y E f.front (omega arith)
                  ∙ stretch_kept v v (4 * v + 4 * m) X Y u.front (omega arith)
                  ∙ b.points;
              flags = mapped_at (flag_of uses) uses (take (length is) (drop (flags_at v m (length is)) E)) (flags_many ∙ sym uses_long) (λ i l. mark_at i (omega (arith, uses_long)));
              rest =
                  rest_less (at + 3 * length is) (uses_end v m (length is)) Y E f.rest (omega arith)
                  ∙ u.rest
                  ∙ rest_less (4 * v + m) (uses_end v m (length is)) W X b.rest (omega arith);
            }
