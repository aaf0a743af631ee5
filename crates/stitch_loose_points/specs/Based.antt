-- Where a row's vertices stand among all of a body: their points and names, and the flags of its edges. Assumes nothing.
use Rattle.std.specs.Prelude.{◌≡◌, refl, Bool, cond, List, [], ◌∷◌, map, ℕ, zero, suc, ◌+◌, ◌*◌, ◌<◌, get_or, take, drop, Float}
use Rattle.std.proofs.Common.{ap, ◌∙◌, arith, get_or-drop}
use Rattle.std.specs.Float.{nan}
use Rattle.float_steps.specs.Floats.{widen}
use Rattle.lists.specs.Stretches.{stretch_at}
use Rattle.patch_geometry.specs.Geometry.{point_at}

-- 1 for an open edge, 0 for any other
abbrev pub flag : Bool → ℕ
flag b = cond b 1 0

-- the flags behind the first n
pub flags_drop : (n : ℕ) (bs : List Bool) → map flag (drop n bs) ≡ drop n (map flag bs)
flags_drop zero bs = refl
flags_drop (suc n) [] = refl
flags_drop (suc n) (b ∷ bs) = flags_drop n bs

-- a row's n vertices start at `base` of all points, and are the first of qs
pub record PointsFrom (ps : List Float) (base n : ℕ) (qs : List Float) : Type 0 where
  pub point : (i : ℕ) → i < n → point_at qs i ≡ point_at ps (base + i)

-- their names start at `base` of all names, and are the first of ms
pub record NamesFrom (nms : List ℕ) (base : ℕ) (ms : List ℕ) : Type 0 where
  pub name : (i : ℕ) → get_or ms i 0 ≡ get_or nms (base + i) 0

-- a coordinate of the row stands at k of its own and at m of all
coordinate : (ps : List Float) (base n k m : ℕ) → k < 3 * n → 3 * base + k ≡ m → get_or (take (3 * n) (drop (3 * base) ps)) k nan ≡ get_or ps m nan
coordinate ps base n k m h e = stretch_at (3 * base) (3 * n) ps k nan h ∙ ap (λ (i : ℕ). get_or ps i nan) e

-- a row's vertices are where those before it end
pub points_from : (ps : List Float) (base n : ℕ) (qs : List Float) → qs ≡ drop (3 * base) ps → PointsFrom ps base n (take (3 * n) qs)
points_from ps base n qs e =
    record {
      point = λ i h.
          ap (λ (l : List Float). point_at (take (3 * n) l) i) e
          ∙ (λ j.
          record {
            x = widen (coordinate ps base n (3 * i) (3 * (base + i)) (omega arith) (omega arith) j);
            y = widen (coordinate ps base n (3 * i + 1) (3 * (base + i) + 1) (omega arith) (omega arith) j);
            z = widen (coordinate ps base n (3 * i + 2) (3 * (base + i) + 2) (omega arith) (omega arith) j);
          });
    }

-- so are their names
pub names_from : (nms : List ℕ) (base : ℕ) (ms : List ℕ) → ms ≡ drop base nms → NamesFrom nms base ms
names_from nms base ms e = record { name = λ i. ap (λ (l : List ℕ). get_or l i 0) e ∙ get_or-drop base nms i 0 }
