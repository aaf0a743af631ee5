-- The flat table of some rows and one more. Assumes nothing.
use Rattle.std.specs.Prelude.{◌≡◌, refl, List, [], ◌∷◌, ◌++◌, ℕ}
use Rattle.std.proofs.Common.{ap}
use Rattle.body_rows.specs.Body.{Row, table_of}

-- the flat table of one row more
pub table_more : (rs : List Row) (r : Row) → table_of (rs ++ r ∷ []) ≡ table_of rs ++ r.shell ∷ r.face ∷ r.outcome ∷ r.vertices ∷ r.indices ∷ r.bin ∷ []
unfolding table_of
table_more [] r = refl
table_more (q ∷ rs) r = ap (λ (l : List ℕ). q.shell ∷ q.face ∷ q.outcome ∷ q.vertices ∷ q.indices ∷ q.bin ∷ l) (table_more rs r)
