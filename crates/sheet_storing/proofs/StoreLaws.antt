-- The laws of stores side by side. Assumes nothing.
use mathlib.Core.List.{List, [], ◌∷◌, append_assoc}
use mathlib.Core.Path.{◌≡◌, ◌∙◌}
use Prim.Native.Nat.{ℕ, ◌+◌, ◌%◌, ◌^◌, ◌≤◌}
use lib.ListN.{length, get_or, take, drop}
use Rattle.std.proofs.lemmas.List.Edits.{sets, sets-eq}
use Rattle.sheet_storing.specs.Placed.{low_three, placed, three_same}

-- a run of stores is what was stored between the front and the rest
pub run_placed : (S W : List ℕ) (at : ℕ) (vs : List ℕ) → at + length vs ≤ length S → W ≡ sets S at vs → W ≡ placed S at vs
run_placed S W at vs h e = e ∙ sets-eq vs S at h ∙ append_assoc (take at S) vs (drop (at + length vs) S)

-- the low 32 bits of three numbers
pub low_stored : (S W : List ℕ) (place i a b c : ℕ) (ns : List ℕ) → a ≡ get_or ns i 0 % 2 ^ 32 → b ≡ get_or ns (i + 1) 0 % 2 ^ 32 → c ≡ get_or ns (i + 2) 0 % 2 ^ 32 → place + 3 ≤ length S → W ≡ sets S place (a ∷ b ∷ c ∷ [])
    → W ≡ placed S place (low_three ns i)
low_stored S W place i a b c ns p q r h e = three_same S place [] p q r (run_placed S W place (a ∷ b ∷ c ∷ []) h e)
