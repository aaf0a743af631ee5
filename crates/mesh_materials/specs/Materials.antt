-- The material of a face, and check 42. Assumes nothing.
use Rattle.std.specs.Prelude.{Bool, List, ◌∷◌, ℕ, zero, suc, ◌^◌, ltb}
use Rattle.std.proofs.Math.Option.{Option, none, some}
use Rattle.lists.specs.Lists.{any, item_at}

-- what an entry says: 0 is none, n + 1 is material n
unfoldable pub entry : ℕ → Option ℕ
entry zero = none
entry (suc n) = some n

-- the entry of a face; a missing one is none
unfoldable pub entry_of : List ℕ → ℕ → Option ℕ
entry_of materials face = elim (item_at materials face) [ none ↦ none | some e ↦ entry e ]

-- A face whose entry is 0 or missing has the default; no default means material 0.
unfoldable pub material_of : List ℕ → ℕ → ℕ → ℕ
material_of materials default face = elim (entry_of materials face) [
  | some m ↦ m
  | none ↦ elim (entry default) [ some m ↦ m | none ↦ 0 ]
]

-- 42: an entry or the default is above 2 ^ 32
unfoldable pub bad_materials : List ℕ → ℕ → Bool
bad_materials materials default = any (λ m. ltb (2 ^ 32) m) (default ∷ materials)
