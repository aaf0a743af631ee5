-- The name of a use tells its edge from every other: equal names are uses of one edge. Assumes nothing.
use Rattle.std.specs.Prelude.{◌≡◌, refl, Bool, true, false, ◌&&◌, ◌||◌, ℕ, ◌<◌, min, max, eqb}
use Rattle.std.proofs.Common.{sym, ◌∙◌, eq-eqb, ne_eqb, lt-ltb, le-ltb}
use native.Mathlib.Omega.{arith}
use Rattle.std.proofs.Math.Decide.{ℕ_discrete, dec_lt}
use Rattle.edge_uses.specs.Edges.{Use, same_edge}
use Rattle.edge_uses.specs.Named.{edge_name, run_of, use_name}

-- a use between points that have names
pub record LowUse (u : Use) : Type 0 where
  pub start_low : u.start < 262144
  pub end_low : u.end < 262144

-- two edges with the same ends
pub record SameEnds (a b c d : ℕ) : Type 0 where
  pub lower : min a b ≡ min c d
  pub higher : max a b ≡ max c d

-- equal names have equal parts
module _ (s t : ℕ) {a b c d : ℕ} (la : a < 262144) (lb : b < 262144) (lc : c < 262144) (ld : d < 262144) (e : edge_name s a b ≡ edge_name t c d) where
  pub shell_same : s ≡ t
  unfolding edge_name
  shell_same = omega arith

  pub ends_same : SameEnds a b c d
  unfolding edge_name
  ends_same = record { lower = omega (arith, shell_same); higher = omega arith }

-- the same both ways round
pub name_back : (s a b : ℕ) → edge_name s a b ≡ edge_name s b a
unfolding edge_name
name_back s a b = omega arith

-- two uses are of one edge exactly if their names are equal
pub names_tell : (u v : Use) → LowUse u → LowUse v → same_edge v u ≡ eqb (use_name u) (use_name v)
unfolding same_edge
names_tell u v lu lv = go (ℕ_discrete v.shell u.shell) (ℕ_discrete v.start u.start) (ℕ_discrete v.end u.end) (ℕ_discrete v.start u.end) (ℕ_discrete v.end u.start)
  where
    differ : (use_name u ≡ use_name v → ⊥) → {b : Bool} → b ≡ false → b ≡ eqb (use_name u) (use_name v)
    differ n {b} e = e ∙ sym (ne_eqb (use_name u) (use_name v) n)

    alike : use_name u ≡ use_name v → {b : Bool} → b ≡ true → b ≡ eqb (use_name u) (use_name v)
    alike n {b} e = e ∙ sym (eq-eqb (use_name u) (use_name v) n)

    shell_of : use_name u ≡ use_name v → v.shell ≡ u.shell
    shell_of n = sym (shell_same u.shell v.shell lu.start_low lu.end_low lv.start_low lv.end_low n)

    ends_of : use_name u ≡ use_name v → SameEnds u.start u.end v.start v.end
    ends_of n = ends_same u.shell v.shell lu.start_low lu.end_low lv.start_low lv.end_low n

    go : Dec (v.shell ≡ u.shell) → Dec (v.start ≡ u.start) → Dec (v.end ≡ u.end) → Dec (v.start ≡ u.end) → Dec (v.end ≡ u.start)
        → (eqb v.shell u.shell && (eqb v.start u.start && eqb v.end u.end || eqb v.start u.end && eqb v.end u.start)) ≡ eqb (use_name u) (use_name v)
    go (no s) p q r t = rw (ne_eqb v.shell u.shell s) (differ (λ n. s (shell_of n)) refl)
    go (yes s) (yes p) (yes q) r t =
        rw (eq-eqb v.shell u.shell s, eq-eqb v.start u.start p, eq-eqb v.end u.end q)
        (alike (cc) refl)
    go (yes s) (yes p) (no q) (yes r) (yes t) = absurd (q (t ∙ sym p ∙ r))
    go (yes s) (yes p) (no q) (no r) t =
        rw (eq-eqb v.shell u.shell s, eq-eqb v.start u.start p, ne_eqb v.end u.end q, ne_eqb v.start u.end r)
        (differ (λ n. q (omega (arith, (ends_of n).lower, (ends_of n).higher))) refl)
    go (yes s) (yes p) (no q) (yes r) (no t) =
        rw (eq-eqb v.shell u.shell s, eq-eqb v.start u.start p, ne_eqb v.end u.end q, eq-eqb v.start u.end r, ne_eqb v.end u.start t)
        (differ (λ n. q (omega (arith, (ends_of n).lower, (ends_of n).higher))) refl)
    go (yes s) (no p) q (yes r) (yes t) =
        rw (eq-eqb v.shell u.shell s, ne_eqb v.start u.start p, eq-eqb v.start u.end r, eq-eqb v.end u.start t)
        (alike (name_back u.shell u.start u.end ∙ cc) refl)
    go (yes s) (no p) q (no r) t =
        rw (eq-eqb v.shell u.shell s, ne_eqb v.start u.start p, ne_eqb v.start u.end r)
        (differ (λ n. p (omega (arith, (ends_of n).lower, (ends_of n).higher))) refl)
    go (yes s) (no p) q (yes r) (no t) =
        rw (eq-eqb v.shell u.shell s, ne_eqb v.start u.start p, eq-eqb v.start u.end r, ne_eqb v.end u.start t)
        (differ (λ n. p (omega (arith, (ends_of n).lower, (ends_of n).higher))) refl)

-- ---- the way a use runs

-- a use with equal ends runs 2
pub run_equal : (a b : ℕ) → a ≡ b → run_of a b ≡ 2
unfolding run_of
run_equal a b e = rw (eq-eqb a b e)

-- a use whose ends differ does not
pub run_apart : (a b : ℕ) → (a ≡ b → ⊥) → run_of a b ≡ 2 → ⊥
unfolding run_of
run_apart a b h e = go (dec_lt a b)
  where
    go : Dec (a < b) → ⊥
    go (yes l) = let z : run_of a b ≡ 0 = rw (ne_eqb a b h, lt-ltb a b l) in omega arith
    go (no l) = let z : run_of a b ≡ 1 = rw (ne_eqb a b h, le-ltb a b (omega arith)) in omega arith
