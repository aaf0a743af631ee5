-- Laws of the words: which way a use runs. Assumes nothing.
use mathlib.Core.Path.{◌≡◌}
use Prim.Native.Nat.{ℕ, ◌≤◌, ◌<◌}
use borrow.Author.Tests.{eq-eqb, ne_eqb, lt-ltb, le-ltb}
use Rattle.edge_uses.specs.Named.{run_of}

pub run_equal : {a b : ℕ} → a ≡ b → 2 ≡ run_of a b
unfolding run_of
run_equal {a} {b} e = rw (eq-eqb a b e)

pub run_up : {a b : ℕ} → (a ≡ b → ⊥) → a < b → 0 ≡ run_of a b
unfolding run_of
run_up {a} {b} e l = rw (ne_eqb a b e, lt-ltb a b l)

pub run_down : {a b : ℕ} → (a ≡ b → ⊥) → b ≤ a → 1 ≡ run_of a b
unfolding run_of
run_down {a} {b} e l = rw (ne_eqb a b e, le-ltb a b l)
