-- A group's volume V, and whether it inverts the group's colours. Assumes nothing.
use Rattle.std.specs.Prelude.{Bool, not, ◌&&◌, ◌||◌, cond, List, [], ◌∷◌, ℕ, length, get_or, ltb, eqb, Float}
use Rattle.std.specs.Float.Ieee.{lt}
use Rattle.lists.specs.Lists.{sum_of}
use Rattle.body_rows.specs.Body.{Patch}
use Rattle.patch_geometry.specs.Geometry.{add, zero64}
use Rattle.patch_measures.specs.Volume.{patch_volume}
use Rattle.turn_walk.specs.Walk.{unvisited, plain, coloured}

-- the patch of row n
unfoldable pub patch_at : List Patch → ℕ → Patch
patch_at patches n =
    get_or patches n
    (record { row = record { shell = 0; face = 0; outcome = 0; vertices = 0; indices = 0; bin = 0 }; positions = []; normals = []; indices = [] })

-- V is the sum, in walk order, of the patch volumes with coloured rows reversed.
unfoldable pub volume_from : List Patch → List ℕ → Float → List ℕ → Float
volume_from patches colours v [] = v
volume_from patches colours v (n ∷ ns) =
    let p = patch_at patches n in
    volume_from patches colours (add v (patch_volume p.positions p.indices (eqb (get_or colours n unvisited) coloured))) ns

-- how many indices the rows of colour c hold
unfoldable pub indices_on : List Patch → List ℕ → ℕ → List ℕ → ℕ
indices_on patches colours c rows = sum_of (λ n. cond (eqb (get_or colours n unvisited) c) (length (patch_at patches n).indices) 0) rows

-- V below 0 inverts the group's colours; V of 0 inverts them only if coloured rows hold more indices than the others.
unfoldable pub inverts : List Patch → List ℕ → List ℕ → Float → Bool
inverts patches colours rows v =
    lt v zero64 || (not (lt zero64 v) && ltb (indices_on patches colours plain rows) (indices_on patches colours coloured rows))
