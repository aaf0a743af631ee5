-- Laws of flags: the flag of one use, and flags set use by use. Assumes nothing.
use mathlib.Core.Path.{◌≡◌, refl, sym, ap, ◌∙◌}
use mathlib.Core.Bool.{not, ◌&&◌, cond}
use mathlib.Core.List.{List}
use Prim.Native.Nat.{ℕ, ◌+◌, ◌*◌, ◌≤◌, ◌<◌}
use native.Mathlib.Omega.{arith}
use native.Mathlib.Decide.{ℕ_discrete}
use borrow.Author.Tests.{eq-eqb, ne_eqb}
use lib.ListN.{length, get_or, set, take, drop, length-set}
use lib.Seq.{get_or-drop, get_or-set_same, get_or-set_other, take-set-le, drop-set-lt}
use lib.Dec.{eqb}
use Rattle.lists.specs.Stretches.{front_at, rest_less}
use Rattle.edge_uses.specs.Edges.{Use, skipped, uses_of, is_open}
use Rattle.edge_uses.specs.Named.{use_run}
use Rattle.edge_uses.specs.NameLaws.{run_equal, run_apart}
use Rattle.stitch_loose_points.specs.Open.{flag_of, flag_by, count_in, flag_in, FlagReady, FlagsReady, FlagsSet}

-- ---- the flag by run and count

-- a use with equal ends is not open
pub flag_equal : (run count : ℕ) → run ≡ 2 → 0 ≡ flag_by run count
unfolding flag_by
flag_equal run count e = rw (eq-eqb run 2 e)

-- an edge of one use is
pub flag_one : (run count : ℕ) → (run ≡ 2 → ⊥) → count ≡ 1 → 1 ≡ flag_by run count
unfolding flag_by
flag_one run count n e = rw (ne_eqb run 2 n, eq-eqb count 1 e)

-- an edge of more is not
pub flag_more : (run count : ℕ) → (run ≡ 2 → ⊥) → (count ≡ 1 → ⊥) → 0 ≡ flag_by run count
unfolding flag_by
flag_more run count n e = rw (ne_eqb run 2 n, ne_eqb count 1 e)

-- the flag by a use's run and by how many uses its edge has is the definition's
pub flag_is : (us : List Use) (u : Use) → flag_by (use_run u) (uses_of us u) ≡ flag_of us u
unfolding is_open skipped
flag_is us u = go (ℕ_discrete u.start u.end) (ℕ_discrete (uses_of us u) 1)
  where
    go : Dec (u.start ≡ u.end) → Dec (uses_of us u ≡ 1) → flag_by (use_run u) (uses_of us u) ≡ cond (not (eqb u.start u.end) && eqb (uses_of us u) 1) 1 0
    go (yes e) d = rw (eq-eqb u.start u.end e) (sym (flag_equal (use_run u) (uses_of us u) (run_equal u.start u.end e)))
    go (no n) (yes e) = rw (ne_eqb u.start u.end n, eq-eqb (uses_of us u) 1 e) (sym (flag_one (use_run u) (uses_of us u) (run_apart u.start u.end n) e))
    go (no n) (no e) = rw (ne_eqb u.start u.end n, ne_eqb (uses_of us u) 1 e) (sym (flag_more (use_run u) (uses_of us u) (run_apart u.start u.end n) e))

-- ---- flags use by use

-- the flags of the uses before use i are set: W became E
pub record Marking (W : List ℕ) (at n i : ℕ) (E : List ℕ) : Type 0 where
  pub low : i ≤ n
  pub done : (j : ℕ) → j < i → get_or E (at + 2 * n + j) 0 ≡ flag_in W at n j
  pub front : take (at + 2 * n) E ≡ take (at + 2 * n) W
  pub rest : drop (at + 2 * n + i) E ≡ drop (at + 2 * n + i) W
  pub long : length E ≡ length W

-- none is set yet
pub marking_none : (W : List ℕ) (at n : ℕ) → Marking W at n 0 W
marking_none W at n = record { low = omega arith; done = λ j h. absurd (omega arith); front = refl; rest = refl; long = refl }

module _ {W E : List ℕ} {at n i : ℕ} (r : FlagsReady W at n) (g : Marking W at n i E) (h : i < n) where
  -- a first use is as it was
  first_kept : get_or E (at + i) 0 ≡ get_or W (at + i) 0
  first_kept = front_at (at + 2 * n) (at + i) W E 0 g.front (omega arith)

  -- so is a run that is left
  run_kept : get_or E (at + 2 * n + i) 0 ≡ get_or W (at + 2 * n + i) 0
  run_kept =
      let z : at + 2 * n + i + 0 ≡ at + 2 * n + i = omega arith in
      ap (λ (k : ℕ). get_or E k 0) (sym z)
      ∙ sym (get_or-drop (at + 2 * n + i) E 0 0)
      ∙ ap (λ (l : List ℕ). get_or l 0 0) g.rest
      ∙ get_or-drop (at + 2 * n + i) W 0 0
      ∙ ap (λ (k : ℕ). get_or W k 0) z

  -- the next flag can be read
  pub flag_ready : FlagReady E at n i
  flag_ready = record { inside = h; room = omega (arith, r.room, g.long); low = omega (arith, first_kept, r.low i h) }

  count_kept : count_in E at n i ≡ count_in W at n i
  count_kept =
      ap (λ (k : ℕ). get_or E (at + n + k) 0) first_kept
      ∙ front_at (at + 2 * n) (at + n + get_or W (at + i) 0) W E 0 g.front (omega (arith, r.low i h))

  flag_kept : flag_in E at n i ≡ flag_in W at n i
  flag_kept = ap (λ (k : ℕ). flag_by k (count_in E at n i)) run_kept ∙ ap (flag_by (get_or W (at + 2 * n + i) 0)) count_kept

  -- it is set
  pub marking_more : {x : ℕ} → x ≡ flag_in E at n i → Marking W at n (i + 1) (set E (at + 2 * n + i) x)
  marking_more {x} e =
      record {
        low = omega arith;
        done = λ j l. go j l (ℕ_discrete j i);
        front = take-set-le (at + 2 * n) E (at + 2 * n + i) x (omega arith) ∙ g.front;
        rest = drop-set-lt (at + 2 * n + (i + 1)) E (at + 2 * n + i) x (omega arith) ∙ rest_less (at + 2 * n + i) (at + 2 * n + (i + 1)) W E g.rest (omega arith);
        long = simp length-set g.long;
      }
    where
      go : (j : ℕ) → j < i + 1 → Dec (j ≡ i) → get_or (set E (at + 2 * n + i) x) (at + 2 * n + j) 0 ≡ flag_in W at n j
      go j l (yes q) =
          ap (λ (k : ℕ). get_or (set E (at + 2 * n + i) x) (at + 2 * n + k) 0) q
          ∙ get_or-set_same E (at + 2 * n + i) x 0 (omega (arith, r.room, g.long))
          ∙ e
          ∙ flag_kept
          ∙ ap (flag_in W at n) (sym q)
      go j l (no q) = get_or-set_other E (at + 2 * n + i) (at + 2 * n + j) x 0 (omega arith) ∙ g.done j (omega arith)

-- all are
pub marking_all : {W E : List ℕ} {at n i : ℕ} → Marking W at n i E → n ≤ i → FlagsSet W at n E
marking_all {W} {E} {at} {n} {i} g h =
    record {
      flags = λ j l. g.done j (omega arith);
      front = g.front;
      rest = rest_less (at + 2 * n + i) (at + 3 * n) W E g.rest (omega (arith, g.low));
    }
