-- Laws of the uses laid out: what stands in the work area is the definition's uses, by first use, row and run. Assumes nothing.
use mathlib.Core.Path.{◌≡◌, sym, ap, ◌∙◌, subst}
use mathlib.Core.List.{List, [], map, map-map}
use Prim.Native.Nat.{ℕ, ◌+◌, ◌*◌, ◌<◌}
use native.Mathlib.Omega.{arith}
use lib.ListN.{length, get_or, take, drop, length-map}
use lib.Seq.{drop-drop}
use lib.Ieee.{Float}
use Rattle.lists.specs.Stretches.{stretch_at, rest_less}
use Rattle.point_rules.specs.Rule.{names}
use Rattle.point_rules.specs.Points.{key}
use Rattle.body_rows.specs.Body.{Row, rows_of, patches_of}
use Rattle.body_rows.specs.Rows.{no_row}
use Rattle.join_definition.specs.Join.{index_of, joined}
use Rattle.join_definition.specs.Representatives.{index_found, joined_below, joined_low}
use Rattle.edge_uses.specs.Edges.{Use}
use Rattle.edge_uses.specs.Named.{use_name, use_run, use_row, row_numbers}
use Rattle.edge_uses.specs.FirstUsers.{UsersReady, uses_in}
use Rattle.edge_uses.specs.RowUses.{numbers_below}
use Rattle.edge_uses.specs.Area.{uses_end, Layable, UsesListed}
use Rattle.edge_uses.proofs.AreaLaws.{uses_many, rows_there, points_low, users_ready, uses_there}
use Rattle.edge_uses.proofs.UseLaws.{uses_in_lem, low_uses, shells_uses, length_named}
use Rattle.edge_uses.specs.UseLaws.{in_shell, name_by, no_use, Apart}
use Rattle.turn_walk.specs.Uses.{Uses, pairs_by, own}
use Rattle.turn_walk.specs.Area.{uses_of, Sound}
use Rattle.turn_pairs.specs.PairLaws.{listed, pairs_are}
use Rattle.turn_pairs.specs.Laid.{shells_of, uses_at, key_uses, Joinable, BodyJoined, Laid}
use Rattle.turn_pairs.proofs.ShellLaws.{shell_at}

module _ {table : List ℕ} {ps : List Float} {is W : List ℕ} {v m : ℕ} (g : Layable table ps is W v m) where
  -- the vertices and rows can be joined
  pub joinable : Joinable table ps v m W
  joinable = record { rows = g.rows; count = g.count; all = g.all_positions; few = g.few_vertices; room = omega (arith, g.room) }

  -- the first vertex of each point
  abbrev points : List ℕ
  points = joined (names key ps)

  -- ---- the shells

  -- the first row of a shell
  number : ℕ → ℕ
  number s = index_of s (shells_of (rows_of table))

  shells_many : length (shells_of (rows_of table)) ≡ m
  shells_many = length-map (rows_of table) (λ r. r.shell) ∙ g.count

  -- the numbers of the rows' shells
  abbrev numbers : List ℕ
  numbers = map (λ (r : Row). number r.shell) (rows_of table)

  numbers_are : joined (shells_of (rows_of table)) ≡ numbers
  unfolding joined number
  numbers_are = map-map (λ (s : ℕ). index_of s (shells_of (rows_of table))) (λ (r : Row). r.shell) (rows_of table)

  -- the number of a row's shell leads back to it
  shell_back : (k : ℕ) → k < length (rows_of table) → get_or (shells_of (rows_of table)) (number (get_or (rows_of table) k no_row).shell) 0 ≡ (get_or (rows_of table) k no_row).shell
  unfolding number
  shell_back k l = (index_found (get_or (rows_of table) k no_row).shell (shells_of (rows_of table)) k (omega (arith, shells_many, g.count)) (shell_at (rows_of table) k l)).same

  -- ---- the uses

  -- the uses of the body
  abbrev uses : List Use
  uses = key_uses table ps is

  -- numbers tell their shells apart, and their points have names
  apart : Apart number uses
  apart =
      record {
        shells = λ i j li lj e. sym (back i li) ∙ ap (λ (n : ℕ). get_or (shells_of (rows_of table)) n 0) e ∙ back j lj;
        low = λ i l. low_uses (λ r. r.shell) 0 points (patches_of (rows_of table) ps [] is) (points_low g) i;
      }
    where
      back : (i : ℕ) → i < length uses → get_or (shells_of (rows_of table)) (number (get_or uses i no_use).shell) 0 ≡ (get_or uses i no_use).shell
      back = shells_uses (λ s. get_or (shells_of (rows_of table)) (number s) 0 ≡ s) (λ r. r.shell) 0 points (rows_of table) ps [] is shell_back

  module _ {X : List ℕ} (b : BodyJoined table ps v m W X) (long : length X ≡ length W) where
    number_at : (k : ℕ) → k < m → get_or X (4 * v + m + k) 0 ≡ get_or (joined (shells_of (rows_of table))) k 0
    number_at k l = sym (stretch_at (4 * v + m) m X k 0 l) ∙ ap (λ (p : List ℕ). get_or p k 0) b.shells

    number_low : (k : ℕ) → k < m → get_or X (4 * v + m + k) 0 < 4096
    number_low k l = omega (arith, number_at k l, joined_low (shells_of (rows_of table)) 4096 (omega arith) (omega (arith, shells_many, g.rows.few, g.count)) k)

    -- the first users can be found
    pub users_found : UsersReady table is X v (4 * v + m) (4 * v + 4 * m)
    users_found = users_ready g X (4 * v + m) b.points long (omega arith) number_low

    -- what stands in the work area are the body's uses, shells by number
    uses_are : uses_in table is X v (4 * v + m) ≡ map (in_shell number) uses
    uses_are =
        uses_there g X (4 * v + m) b.points long (omega arith) (λ (r : Row). number r.shell) (λ k l. number_at k l ∙ ap (λ (s : List ℕ). get_or s k 0) numbers_are)
        ∙ uses_in_lem number (λ (r : Row). r.shell) 0 points (patches_of (rows_of table) ps [] is)

    uses_long : length uses ≡ length is
    uses_long = sym (length-map uses (in_shell number)) ∙ sym (ap length uses_are) ∙ uses_many users_found

    module _ {E : List ℕ} (u : UsesListed table is X v (4 * v + m) (4 * v + 4 * m) E) where
      -- they stand there by first use, row and run
      listed_there : uses_of (length is) (drop (uses_at v m (length is)) E) ≡ listed number uses
      listed_there = λ i. record { count = sym uses_long i; first = firsts i; row = rows i; run = runs i }
        where
          firsts : take (length is) (drop (uses_at v m (length is)) E) ≡ joined (map (name_by number) uses)
          firsts = u.firsts ∙ ap (λ (us : List Use). joined (map use_name us)) uses_are ∙ ap joined (map-map use_name (in_shell number) uses)

          place : uses_at v m (length is) + length is ≡ 4 * v + 4 * m + 2 * length is
          place = omega arith

          place_2 : uses_at v m (length is) + 2 * length is ≡ 4 * v + 4 * m + 3 * length is
          place_2 = omega arith

          rows : take (length is) (drop (length is) (drop (uses_at v m (length is)) E)) ≡ map use_row uses
          rows =
              ap (take (length is)) (drop-drop (length is) (uses_at v m (length is)) E ∙ ap (λ (k : ℕ). drop k E) place)
              ∙ u.rows
              ∙ sym (rows_there users_found)
              ∙ ap (map use_row) uses_are
              ∙ map-map use_row (in_shell number) uses

          runs : take (length is) (drop (2 * length is) (drop (uses_at v m (length is)) E)) ≡ map use_run uses
          runs =
              ap (take (length is)) (drop-drop (2 * length is) (uses_at v m (length is)) E ∙ ap (λ (k : ℕ). drop k E) place_2)
              ∙ u.runs
              ∙ ap (map use_run) uses_are
              ∙ map-map use_run (in_shell number) uses

      -- first uses are uses, and rows are rows
      sound_there : Sound (length is) m (drop (uses_at v m (length is)) E)
      sound_there =
          record {
            firsts = λ i l. subst (λ (s : Uses). get_or s.first i 0 < length is) (sym listed_there) (first_low i l);
            rows = λ i l. subst (λ (s : Uses). own s i < m) (sym listed_there) (row_low i l);
          }
        where
          named_many : length (map (name_by number) uses) ≡ length is
          named_many = length_named (name_by number) uses ∙ uses_long

          first_low : (i : ℕ) → i < length is → get_or (joined (map (name_by number) uses)) i 0 < length is
          first_low i l = omega (arith, joined_below (map (name_by number) uses) i (omega (arith, named_many)), named_many)

          numbered : map use_row uses ≡ row_numbers 0 (rows_of table)
          numbered = sym (map-map use_row (in_shell number) uses) ∙ sym (ap (map use_row) uses_are) ∙ rows_there users_found

          row_low : (i : ℕ) → i < length is → get_or (map use_row uses) i 0 < m
          row_low i l =
              let many : length (row_numbers 0 (rows_of table)) ≡ length is = sym (ap length numbered) ∙ length_named use_row uses ∙ uses_long in
              omega (arith, ap (λ (s : List ℕ). get_or s i 0) numbered, numbers_below 0 (rows_of table) i (omega arith), g.count)

      -- the uses are laid out
      pub laid : Laid table ps is v m W E
      laid =
          record {
            pairs = ap pairs_by listed_there ∙ pairs_are number uses apart;
            sound = sound_there;
            rest = u.rest ∙ rest_less (4 * v + 4 * m) (uses_end v m (length is)) W X b.rest (omega arith);
          }
