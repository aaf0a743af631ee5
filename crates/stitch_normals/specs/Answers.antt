-- A mixed normal as the value that the code makes. Assumes nothing.
use Rattle.std.specs.Prelude.{List, [], ◌∷◌, Float}
use Rattle.stitch_normals.specs.declared.Normal.{Normal}

-- a normal's coordinates
abbrev pub normal_of : Normal → List Float
normal_of n = n.x ∷ n.y ∷ n.z ∷ []
