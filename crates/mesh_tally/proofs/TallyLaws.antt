-- Laws of the counts with one use more, and of the loop over the uses. Assumes nothing.
use mathlib.Core.Path.{◌≡◌, sym, ap, ◌∙◌}
use mathlib.Core.Bool.{Bool, true, false, cond}
use mathlib.Core.List.{List, [], ◌∷◌}
use Prim.Native.Nat.{ℕ, suc, ◌+◌, ◌*◌, ◌<◌, ◌≤◌}
use native.Mathlib.Nat.{add-zero}
use native.Mathlib.Omega.{arith}
use native.Mathlib.Decide.{ℕ_discrete}
use borrow.Author.Tests.{eq-eqb, ne_eqb, lt-ltb, le-ltb}
use lib.ListN.{length, get_or, drop_of_length-le}
use lib.Dec.{eqb, ltb}
use Rattle.lists.specs.Lists.{count_if}
use Rattle.edge_uses.specs.Edges.{Use, uses_of, first_uses}
use Rattle.edge_uses.specs.UseLaws.{no_use}
use Rattle.mesh_tally.specs.declared.EdgeCounts.{EdgeCounts}
use Rattle.mesh_counts.specs.Counts.{Counts}
use Rattle.mesh_tally.specs.Tally.{counts_in, with_edge, with_use, UseReady, TallyReady, UseWords, Tallied}
use Rattle.mesh_tally.proofs.UseSteps.{firsts_from, firsts_all, firsts_none, passed_equal, passed_later, taken_first, uses_there}

-- ---- one edge more

module _ (uses e o v : ℕ) where
  -- an edge of one use
  pub edge_open : uses ≡ 1 → ◌≡◌ {A = Counts} (record { edges = e + 1; opens = o + 1; overs = v }) (with_edge uses (record { edges = e; opens = o; overs = v }))
  unfolding with_edge
  edge_open q = rw q (simp add-zero)

  -- an edge of more than two
  pub edge_over : (uses ≡ 1 → ⊥) → 2 < uses → ◌≡◌ {A = Counts} (record { edges = e + 1; opens = o; overs = v + 1 }) (with_edge uses (record { edges = e; opens = o; overs = v }))
  unfolding with_edge
  edge_over n l = rw (ne_eqb uses 1 n, lt-ltb 2 uses l) (simp add-zero)

  -- any other
  pub edge_other : (uses ≡ 1 → ⊥) → uses ≤ 2 → ◌≡◌ {A = Counts} (record { edges = e + 1; opens = o; overs = v }) (with_edge uses (record { edges = e; opens = o; overs = v }))
  unfolding with_edge
  edge_other n l = rw (ne_eqb uses 1 n, le-ltb 2 uses l) (simp add-zero)

-- ---- one use more

module _ (W : List ℕ) (at n i : ℕ) (c : Counts) where
  -- its ends are equal
  pub use_equal : get_or W (at + 2 * n + i) 0 ≡ 2 → with_use W at n i c ≡ c
  unfolding with_use
  use_equal e = rw (eq-eqb (get_or W (at + 2 * n + i) 0) 2 e)

  -- it is its own first use
  pub use_first : (get_or W (at + 2 * n + i) 0 ≡ 2 → ⊥) → get_or W (at + i) 0 ≡ i → with_use W at n i c ≡ with_edge (get_or W (at + n + i) 0) c
  unfolding with_use
  use_first h e = rw (ne_eqb (get_or W (at + 2 * n + i) 0) 2 h, eq-eqb (get_or W (at + i) 0) i e)

  -- it is not
  pub use_later : (get_or W (at + 2 * n + i) 0 ≡ 2 → ⊥) → (get_or W (at + i) 0 ≡ i → ⊥) → with_use W at n i c ≡ c
  unfolding with_use
  use_later h e = rw (ne_eqb (get_or W (at + 2 * n + i) 0) 2 h, ne_eqb (get_or W (at + i) 0) i e)

-- ---- the loop

-- whether the edge of a use has one use
abbrev pub is_one : List Use → Use → Bool
is_one us u = eqb (uses_of us u) 1

-- whether it has more than two
abbrev pub is_over : List Use → Use → Bool
is_over us u = ltb 2 (uses_of us u)

-- the counts so far, and those from use i on, are the counts over all uses
pub record Counting (us : List Use) (i : ℕ) (c : EdgeCounts) : Type 0 where
  pub edges : c.edges + length (firsts_from us i) ≡ length (first_uses [] us)
  pub opens : c.opens + count_if (λ u. is_one us u) (firsts_from us i) ≡ count_if (λ u. is_one us u) (first_uses [] us)
  pub overs : c.overs + count_if (λ u. is_over us u) (firsts_from us i) ≡ count_if (λ u. is_over us u) (first_uses [] us)

-- with the uses before use i counted
pub record Tallying (W : List ℕ) (at n i : ℕ) (c : EdgeCounts) : Type 0 where
  pub low : i ≤ n
  pub few_edges : c.edges ≤ i
  pub few_opens : c.opens ≤ i
  pub few_overs : c.overs ≤ i
  pub rest : (us : List Use) → UseWords us W at n → Counting us i c

-- none is counted yet
pub tallying_none : (W : List ℕ) (at n : ℕ) {c : EdgeCounts} → (c.edges ≡ 0) × ((c.opens ≡ 0) × (c.overs ≡ 0)) → Tallying W at n 0 c
tallying_none W at n e =
    record {
      low = omega arith;
      few_edges = omega (arith, e.0);
      few_opens = omega (arith, e.1.0);
      few_overs = omega (arith, e.1.1);
      rest = λ us w.
          record {
            edges = omega (arith, e.0, ap length (firsts_all us));
            opens = omega (arith, e.1.0, ap (count_if (λ u. is_one us u)) (firsts_all us));
            overs = omega (arith, e.1.1, ap (count_if (λ u. is_over us u)) (firsts_all us));
          };
    }

-- one more or none
one_more : (b : Bool) (k m : ℕ) → m ≡ k + cond b 1 0 → m ≤ k + 1
one_more true k m e = omega arith
one_more false k m e = omega arith

-- the count of a list that begins with an item
count_cons : (f : Use → Bool) (u : Use) (us : List Use) (x y : ℕ) → y ≡ x + cond (f u) 1 0 → y + count_if f us ≡ x + count_if f (u ∷ us)
unfolding count_if
count_cons f u us x y e = go (f u) e
  where
    go : (b : Bool) → y ≡ x + cond b 1 0 → y + count_if f us ≡ x + cond b (suc (count_if f us)) (count_if f us)
    go true q = omega arith
    go false q = omega arith

module _ {W : List ℕ} {at n i : ℕ} {c : EdgeCounts} (r : TallyReady W at n) (t : Tallying W at n i c) (l : i < n) where
  -- the counts after use i can be made
  pub use_ready : UseReady W at n i c
  use_ready =
      record {
        inside = l;
        room = r.room;
        few = record { edges = omega (arith, r.few, t.few_edges); opens = omega (arith, r.few, t.few_opens); overs = omega (arith, r.few, t.few_overs) };
      }

  -- nothing is added, and the use is passed
  tallying_same : {d : EdgeCounts} → counts_in d ≡ counts_in c → ((us : List Use) → UseWords us W at n → firsts_from us i ≡ firsts_from us (i + 1)) → Tallying W at n (i + 1) d
  tallying_same {d} e p =
      let ee : d.edges ≡ c.edges = ap (λ (x : Counts). x.edges) e in
      let eo : d.opens ≡ c.opens = ap (λ (x : Counts). x.opens) e in
      let ev : d.overs ≡ c.overs = ap (λ (x : Counts). x.overs) e in
      record {
        low = omega arith;
        few_edges = omega (arith, t.few_edges);
        few_opens = omega (arith, t.few_opens);
        few_overs = omega (arith, t.few_overs);
        rest = λ us w.
            let g = t.rest us w in
            record {
              edges = omega (arith, g.edges, ap length (p us w));
              opens = omega (arith, g.opens, ap (count_if (λ u. is_one us u)) (p us w));
              overs = omega (arith, g.overs, ap (count_if (λ u. is_over us u)) (p us w));
            };
      }

  -- its edge is added
  tallying_edge : {d : EdgeCounts} → counts_in d ≡ with_edge (get_or W (at + n + i) 0) (counts_in c) → (get_or W (at + 2 * n + i) 0 ≡ 2 → ⊥) → get_or W (at + i) 0 ≡ i → Tallying W at n (i + 1) d
  unfolding with_edge
  tallying_edge {d} e h f =
      let k = get_or W (at + n + i) 0 in
      let ee : d.edges ≡ c.edges + 1 = ap (λ (x : Counts). x.edges) e in
      let eo : d.opens ≡ c.opens + cond (eqb k 1) 1 0 = ap (λ (x : Counts). x.opens) e in
      let ev : d.overs ≡ c.overs + cond (ltb 2 k) 1 0 = ap (λ (x : Counts). x.overs) e in
      record {
        low = omega arith;
        few_edges = omega (arith, t.few_edges);
        few_opens = omega (arith, t.few_opens, one_more (eqb k 1) c.opens d.opens eo);
        few_overs = omega (arith, t.few_overs, one_more (ltb 2 k) c.overs d.overs ev);
        rest = λ us w.
            let g = t.rest us w in
            let s = taken_first w i l h f in
            let q = uses_there w i l f in
            record {
              edges = omega (arith, g.edges, ap length s);
              opens =
                  count_cons (λ u. is_one us u) (get_or us i no_use) (firsts_from us (i + 1)) c.opens d.opens (eo ∙ ap (λ (m : ℕ). c.opens + cond (eqb m 1) 1 0) q)
                  ∙ ap (λ (m : List Use). c.opens + count_if (λ u. is_one us u) m) (sym s)
                  ∙ g.opens;
              overs =
                  count_cons (λ u. is_over us u) (get_or us i no_use) (firsts_from us (i + 1)) c.overs d.overs (ev ∙ ap (λ (m : ℕ). c.overs + cond (ltb 2 m) 1 0) q)
                  ∙ ap (λ (m : List Use). c.overs + count_if (λ u. is_over us u) m) (sym s)
                  ∙ g.overs;
            };
      }

  -- use i is counted
  pub tallying_more : {d : EdgeCounts} → counts_in d ≡ with_use W at n i (counts_in c) → Tallying W at n (i + 1) d
  tallying_more {d} e = go (ℕ_discrete (get_or W (at + 2 * n + i) 0) 2) (ℕ_discrete (get_or W (at + i) 0) i)
    where
      go : Dec (get_or W (at + 2 * n + i) 0 ≡ 2) → Dec (get_or W (at + i) 0 ≡ i) → Tallying W at n (i + 1) d
      go (yes q) f = tallying_same (e ∙ use_equal W at n i (counts_in c) q) (λ us w. passed_equal w i l q)
      go (no q) (yes f) = tallying_edge (e ∙ use_first W at n i (counts_in c) q f) q f
      go (no q) (no f) = tallying_same (e ∙ use_later W at n i (counts_in c) q f) (λ us w. passed_later w i l f)

-- all are counted
pub tallying_all : {W : List ℕ} {at n i : ℕ} {c : EdgeCounts} → Tallying W at n i c → n ≤ i → Tallied W at n c
unfolding count_if
tallying_all {W} {at} {n} {i} {c} t h =
    record {
      counts = λ us w.
          let g = t.rest us w in
          let none : firsts_from us i ≡ [] = firsts_none us i (drop_of_length-le us {i = i} (omega (arith, w.many))) in
          record {
            edges = omega (arith, g.edges, ap length none);
            opens = omega (arith, g.opens, ap (count_if (λ u. is_one us u)) none);
            overs = omega (arith, g.overs, ap (count_if (λ u. is_over us u)) none);
          };
    }
