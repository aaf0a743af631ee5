-- First uses one use at a time, and what the words of a use tell of it. Assumes nothing.
use mathlib.Core.Path.{◌≡◌, refl, sym, ap, ◌∙◌}
use mathlib.Core.Bool.{Bool, true, false, ◌||◌, cond}
use mathlib.Core.List.{List, [], ◌∷◌, map}
use Prim.Native.Nat.{ℕ, zero, suc, ◌+◌, ◌*◌, ◌<◌}
use native.Mathlib.Nat.{not-suc-le-zero}
use native.Mathlib.Numerals.{add-one}
use native.Mathlib.Omega.{arith}
use native.Mathlib.Decide.{ℕ_discrete}
use borrow.Author.Tests.{eq-eqb, ne_eqb}
use lib.ListN.{length, get_or, drop}
use lib.Seq.{drop-cons}
use lib.Dec.{eqb}
use Rattle.lists.specs.Lists.{any, count_if}
use Rattle.join_definition.specs.Join.{joined, first_index}
use Rattle.join_definition.specs.Representatives.{rep_low, rep_name, same_name_rep}
use Rattle.edge_uses.specs.Edges.{Use, skipped, same_edge, uses_of, first_uses}
use Rattle.edge_uses.specs.Named.{use_name}
use Rattle.edge_uses.specs.NameLaws.{run_equal, run_apart}
use Rattle.edge_uses.proofs.UseLaws.{apart_tells, get_d_map, length_named, edge_count}
use Rattle.edge_uses.specs.UseLaws.{no_use}
use Rattle.mesh_tally.specs.Tally.{UseWords}

-- the uses before use i, the last first
pub earlier : List Use → ℕ → List Use
earlier us zero = []
earlier us (suc i) = get_or us i no_use ∷ earlier us i

-- the first uses from use i on
pub firsts_from : List Use → ℕ → List Use
firsts_from us i = first_uses (earlier us i) (drop i us)

-- from use 0 on they are all
pub firsts_all : (us : List Use) → firsts_from us 0 ≡ first_uses [] us
unfolding firsts_from earlier
firsts_all us = refl

-- behind the last there are none
pub firsts_none : (us : List Use) (i : ℕ) → drop i us ≡ [] → firsts_from us i ≡ []
unfolding firsts_from first_uses
firsts_none us i e = ap (first_uses (earlier us i)) e

-- ---- use i is one of them, or not

module _ (us : List Use) (i : ℕ) (l : i < length us) where
  -- whether use i does not count
  abbrev pub passed : Bool
  passed = skipped (get_or us i no_use) || any (same_edge (get_or us i no_use)) (earlier us i)

  step : firsts_from us i ≡ cond passed (firsts_from us (i + 1)) (get_or us i no_use ∷ firsts_from us (i + 1))
  unfolding firsts_from first_uses earlier
  step =
      ap (first_uses (earlier us i)) (drop-cons us i no_use l)
      ∙ ap (λ (k : ℕ). cond passed (firsts_from us k) (get_or us i no_use ∷ firsts_from us k)) (sym (add-one i))

  -- it is none
  pub step_passed : passed ≡ true → firsts_from us i ≡ firsts_from us (i + 1)
  step_passed e = step ∙ ap (λ (b : Bool). cond b (firsts_from us (i + 1)) (get_or us i no_use ∷ firsts_from us (i + 1))) e

  -- it is one
  pub step_first : passed ≡ false → firsts_from us i ≡ get_or us i no_use ∷ firsts_from us (i + 1)
  step_first e = step ∙ ap (λ (b : Bool). cond b (firsts_from us (i + 1)) (get_or us i no_use ∷ firsts_from us (i + 1))) e

-- ---- the uses before it

-- none is of its edge
none_before : (u : Use) (us : List Use) (i : ℕ) → ((j : ℕ) → j < i → same_edge u (get_or us j no_use) ≡ false) → any (same_edge u) (earlier us i) ≡ false
unfolding any earlier
none_before u us zero h = refl
none_before u us (suc i) h = go (same_edge u (get_or us i no_use)) (h i (omega arith)) (none_before u us i (λ j l. h j (omega arith)))
  where
    go : (b : Bool) → b ≡ false → any (same_edge u) (earlier us i) ≡ false → elim b [ true ↦ true | false ↦ any (same_edge u) (earlier us i) ] ≡ false
    go b q e = rw q e

-- one is
some_before : (u : Use) (us : List Use) (i j : ℕ) → j < i → same_edge u (get_or us j no_use) ≡ true → any (same_edge u) (earlier us i) ≡ true
unfolding any earlier
some_before u us zero j l e = absurd (not-suc-le-zero l)
some_before u us (suc i) j l e = go (ℕ_discrete j i) (λ m. some_before u us i j m e)
  where
    here : (b : Bool) → b ≡ true → elim b [ true ↦ true | false ↦ any (same_edge u) (earlier us i) ] ≡ true
    here b q = rw q

    later : (b : Bool) → any (same_edge u) (earlier us i) ≡ true → elim b [ true ↦ true | false ↦ any (same_edge u) (earlier us i) ] ≡ true
    later true q = refl
    later false q = q

    go : Dec (j ≡ i) → (j < i → any (same_edge u) (earlier us i) ≡ true) → elim (same_edge u (get_or us i no_use)) [ true ↦ true | false ↦ any (same_edge u) (earlier us i) ] ≡ true
    go (yes q) f = here (same_edge u (get_or us i no_use)) (ap (λ (k : ℕ). same_edge u (get_or us k no_use)) (sym q) ∙ e)
    go (no q) f = later (same_edge u (get_or us i no_use)) (f (omega arith))

-- ---- what its words tell

either_left : (b c : Bool) → b ≡ true → (b || c) ≡ true
either_left b c e = rw e

either_right : (b c : Bool) → c ≡ true → (b || c) ≡ true
either_right true c e = refl
either_right false c e = e

neither : (b c : Bool) → b ≡ false → c ≡ false → (b || c) ≡ false
neither b c e f = rw (e, f)

module _ {us : List Use} {W : List ℕ} {at n : ℕ} (w : UseWords us W at n) (i : ℕ) (l : i < n) where
  pub inside : i < length us
  inside = omega (arith, w.many)

  -- the names of the uses
  abbrev ns : List ℕ
  ns = map use_name us

  ns_many : length ns ≡ n
  ns_many = length_named use_name us ∙ w.many

  -- use j is of the edge of use i exactly if it has its name
  same_as : (j : ℕ) → j < n → same_edge (get_or us i no_use) (get_or us j no_use) ≡ eqb (get_or ns j 0) (get_or ns i 0)
  same_as j m =
      let h : j < length us = omega (arith, w.many) in
      apart_tells (λ s. s) us w.apart j i h inside
      ∙ ap (λ (k : ℕ). eqb k (use_name (get_or us i no_use))) (sym (get_d_map use_name us j h))
      ∙ ap (eqb (get_or ns j 0)) (sym (get_d_map use_name us i inside))

  -- it is its own first use: no use before it is of its edge
  lone : get_or W (at + i) 0 ≡ i → any (same_edge (get_or us i no_use)) (earlier us i) ≡ false
  lone e =
      let own : first_index ns i ≡ i = sym (w.first i l) ∙ e in
      none_before (get_or us i no_use) us i
      (λ j m.
      same_as j (omega arith)
      ∙ ne_eqb (get_or ns j 0) (get_or ns i 0) (λ q. omega (arith, own, same_name_rep ns j i q, rep_low ns j (omega (arith, ns_many)))))

  -- it is not: one is
  seen : (get_or W (at + i) 0 ≡ i → ⊥) → any (same_edge (get_or us i no_use)) (earlier us i) ≡ true
  seen h =
      let f = first_index ns i in
      let k : i < length ns = omega (arith, ns_many) in
      let m : f < i = before k in
      some_before (get_or us i no_use) us i f m (same_as f (omega arith) ∙ eq-eqb (get_or ns f 0) (get_or ns i 0) (rep_name ns i k))
    where
      before : i < length ns → first_index ns i < i
      before k = go (ℕ_discrete (first_index ns i) i)
        where
          go : Dec (first_index ns i ≡ i) → first_index ns i < i
          go (yes q) = absurd (h (w.first i l ∙ q))
          go (no q) = omega (arith, rep_low ns i k)

  -- it runs 2: its ends are equal
  equal_ends : get_or W (at + 2 * n + i) 0 ≡ 2 → skipped (get_or us i no_use) ≡ true
  unfolding skipped
  equal_ends e = go (ℕ_discrete (get_or us i no_use).start (get_or us i no_use).end)
    where
      go : Dec ((get_or us i no_use).start ≡ (get_or us i no_use).end) → eqb (get_or us i no_use).start (get_or us i no_use).end ≡ true
      go (yes q) = eq-eqb (get_or us i no_use).start (get_or us i no_use).end q
      go (no q) = absurd (run_apart (get_or us i no_use).start (get_or us i no_use).end q (sym (w.run i l) ∙ e))

  -- it does not: they differ
  other_ends : (get_or W (at + 2 * n + i) 0 ≡ 2 → ⊥) → skipped (get_or us i no_use) ≡ false
  unfolding skipped
  other_ends h = ne_eqb (get_or us i no_use).start (get_or us i no_use).end (λ q. h (w.run i l ∙ run_equal (get_or us i no_use).start (get_or us i no_use).end q))

  -- with equal ends it is passed
  pub passed_equal : get_or W (at + 2 * n + i) 0 ≡ 2 → firsts_from us i ≡ firsts_from us (i + 1)
  passed_equal e = step_passed us i inside (either_left (skipped (get_or us i no_use)) (any (same_edge (get_or us i no_use)) (earlier us i)) (equal_ends e))

  -- behind another use of its edge it is passed
  pub passed_later : (get_or W (at + i) 0 ≡ i → ⊥) → firsts_from us i ≡ firsts_from us (i + 1)
  passed_later h = step_passed us i inside (either_right (skipped (get_or us i no_use)) (any (same_edge (get_or us i no_use)) (earlier us i)) (seen h))

  -- else it is the first use of its edge
  pub taken_first : (get_or W (at + 2 * n + i) 0 ≡ 2 → ⊥) → get_or W (at + i) 0 ≡ i → firsts_from us i ≡ get_or us i no_use ∷ firsts_from us (i + 1)
  taken_first h e = step_first us i inside (neither (skipped (get_or us i no_use)) (any (same_edge (get_or us i no_use)) (earlier us i)) (other_ends h) (lone e))

  -- and its word has how many uses the edge has
  pub uses_there : get_or W (at + i) 0 ≡ i → get_or W (at + n + i) 0 ≡ uses_of us (get_or us i no_use)
  uses_there e =
      w.count i l
      ∙ ap (λ (k : ℕ). count_if (eqb k) (joined ns)) (sym (sym (w.first i l) ∙ e))
      ∙ edge_count us w.apart i inside
