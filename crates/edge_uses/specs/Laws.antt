-- First users by names: where a number names the edge of a use, the first user is the first item of the same name. Assumes nothing.
use Rattle.std.specs.Prelude.{◌≡◌, refl, Bool, true, false, List, [], ◌∷◌, map, ℕ, suc, get_or, eqb}
use Rattle.std.proofs.Common.{ap, ◌∙◌}
use Rattle.join_definition.specs.Join.{index_of}
use Rattle.edge_uses.specs.Edges.{Use, same_edge, first_user}

-- the names tell the edge of u from those of the uses
abbrev pub Names : (Use → ℕ) → Use → List Use → Type 0
Names name u [] = Unit {0}
Names name u (v ∷ vs) = (same_edge v u ≡ eqb (name u) (name v)) × Names name u vs

pub first_user_lem : (name : Use → ℕ) (u : Use) (us : List Use) → Names name u us → first_user us u ≡ get_or us (index_of (name u) (map name us)) u
unfolding first_user index_of
first_user_lem name u [] h = refl
first_user_lem name u (v ∷ vs) h = ap (λ (b : Bool). chosen b) h.0 ∙ go (first_user_lem name u vs h.1) (eqb (name u) (name v))
  where
    chosen : Bool → Use
    chosen b = elim b [ true ↦ v | false ↦ first_user vs u ]

    go : first_user vs u ≡ get_or vs (index_of (name u) (map name vs)) u → (b : Bool) → chosen b ≡ get_or (v ∷ vs) (elim b [ true ↦ 0 | false ↦ suc (index_of (name u) (map name vs)) ]) u
    go e true = refl
    go e false = e
