-- A front that becomes one item, item by item. Assumes nothing.
use Rattle.std.specs.Prelude.{refl, List, ℕ, ◌+◌, ◌≤◌, ◌<◌, length, set, replicate}
use Rattle.std.proofs.Common.{sym, arith}
use Rattle.std.proofs.lemmas.List.{length-replicate, replicate-append-replicate}
use Rattle.slice_append.specs.Appended.{Appended}
use Rattle.stl_definition.specs.FrontLaws.{Front, front_none, front_more, front_all, stored}

module _ {A : Type 0} where
  -- its first k items are written
  abbrev pub Filled : A → ℕ → ℕ → List A → List A → Type 0
  Filled x n k E W = Front 0 (λ j. replicate j x) n k E W

  pub filled_none : (x : A) (n : ℕ) (E : List A) → Filled x n 0 E E
  filled_none x n E = front_none 0 (λ j. replicate j x) n E refl

  pub filled_more : {x : A} {n k : ℕ} {E W : List A} → Filled x n k E W → k < n → n ≤ length E → Filled x n (k + 1) E (set W k x)
  filled_more {x} {n} {k} {E} {W} q h room =
      let g = q.long in
      front_more q h (sym (replicate-append-replicate k 1 x)) (omega (arith, length-replicate k x)) (omega arith) (stored W k x (omega arith))

  pub filled_all : {x : A} {n k : ℕ} {E W : List A} → Filled x n k E W → n ≤ k → Appended 0 (replicate n x) E W
  filled_all q h = front_all q h
