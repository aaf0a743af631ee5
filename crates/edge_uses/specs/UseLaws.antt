-- The definitions that the theorems of this name in proofs/ speak of. Assumes nothing.
use Rattle.std.specs.Prelude.{◌≡◌, List, ℕ, ◌<◌, length, get_or, eqb}
use Rattle.edge_uses.specs.Edges.{Use, same_edge}
use Rattle.edge_uses.specs.Named.{use_name}
use Rattle.edge_uses.specs.NameLaws.{LowUse}

-- a use with another number for its shell
abbrev pub in_shell : (ℕ → ℕ) → Use → Use
in_shell g u = record { shell = g u.shell; row = u.row; start = u.start; end = u.end }

-- a use of nothing: what lies past the end
abbrev pub no_use : Use
no_use = record { shell = 0; row = 0; start = 0; end = 0 }

-- the names tell the edges of the uses apart
abbrev pub Tells : (Use → ℕ) → List Use → Type 0
Tells name us = (i j : ℕ) → i < length us → j < length us → same_edge (get_or us j no_use) (get_or us i no_use) ≡ eqb (name (get_or us i no_use)) (name (get_or us j no_use))

-- the name of a use whose shell's number is given by g
abbrev pub name_by : (ℕ → ℕ) → Use → ℕ
name_by g u = use_name (in_shell g u)

-- g tells the shells of the uses apart, and their points have names
pub record Apart (g : ℕ → ℕ) (us : List Use) : Type 0 where
  pub shells : (i j : ℕ) → i < length us → j < length us → g (get_or us i no_use).shell ≡ g (get_or us j no_use).shell → (get_or us i no_use).shell ≡ (get_or us j no_use).shell
  pub low : (i : ℕ) → i < length us → LowUse (get_or us i no_use)
