-- Tables of claims: each row has what the definitions yield and what the paper says. Assumes nothing.
use Rattle.std.specs.Prelude.{Bool, true, false, List, [], ◌∷◌, ℕ, eqb}

-- whether two lists of numbers are the same
unfoldable pub same : List ℕ → List ℕ → Bool
same [] [] = true
same [] (y ∷ ys) = false
same (x ∷ xs) [] = false
same (x ∷ xs) (y ∷ ys) = elim (eqb x y) [ true ↦ same xs ys | false ↦ false ]

-- a row of the table: its number, what the definitions yield, and what the paper says
pub record Case : Type 0 where
  pub number : ℕ
  pub yields : List ℕ
  pub says : List ℕ

-- the row n
abbrev pub case : ℕ → List ℕ → List ℕ → Case
case n got want = record { number = n; yields = got; says = want }

-- whether the definitions yield what the paper says
unfoldable pub agrees : Case → Bool
agrees c = same c.yields c.says
