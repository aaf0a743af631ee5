-- The definitions that the theorems of this name in proofs/ speak of. Assumes nothing.
use Rattle.std.specs.Prelude.{List, ℕ, ◌-◌, ◌*◌, ℤ, take, drop}

-- the three numbers of vertex i
abbrev pub of_vertex : List ℤ → ℕ → List ℤ
of_vertex zs i = take 3 (drop (3 * i) zs)
