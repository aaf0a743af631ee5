-- What is printed of a body in the fronts of slices. Assumes nothing.
use Rattle.std.specs.Prelude.{List, ℕ, ◌≤◌, length, take, Float}
use Rattle.bench_call_texts.specs.Told.{Told}
use Rattle.bench_call_texts.specs.Texts.{MeshRoom, StitchRoom, bytes_in, finished_text}
use Rattle.patch_geometry.specs.declared.Aabb.{Aabb}

-- a body in the first n coordinates and m indices of slices is finished and printed, where there are so many
pub record FrontsSaid (T : List ℕ) (P N : List Float) (I : List ℕ) (n m : ℕ) (sag : Float) (box : Aabb) (M : List ℕ) (d : ℕ) (into : StitchRoom)
    (out : MeshRoom) (work E W : List ℕ) (r : ℕ) : Type 0 where
  pub says : n ≤ length N → m ≤ length I → Told (bytes_in out) E (finished_text T (take n P) (take n N) (take m I) sag box M d into out work) W r
