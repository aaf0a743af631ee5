-- The words of the volume rule: E, T, M, the bound and V, as whole numbers; VolumeRule.antt says in which units and why. Assumes nothing.
use Rattle.std.specs.Prelude.{Bool, false, ◌&&◌, ◌||◌, cond, List, [], ◌∷◌, ℕ, ◌+◌, ◌*◌, ◌/◌, ◌%◌, ◌^◌, ◌<◌, max, length, get_or, ℤ, pos, neg_ℤ, nat_abs, ◌+ℤ◌, ◌-ℤ◌, ◌*ℤ◌, T, leb, eqb, Float}
use Rattle.std.specs.Float.{nan, inf, fin, binary32}
use Rattle.std.specs.Float.Ieee.{up, down, fits}
use Rattle.point_rules.specs.Points.{sameℤ}
use Rattle.body_rows.specs.Body.{Patch, Triangle, triangles_of}
use Rattle.patch_measures.specs.Volume.{reversed}
use Rattle.turn_definition.specs.Groups.{Group}
use Rattle.turn_definition.specs.Inversion.{patch_at}
use Rattle.turn_walk.specs.Walk.{coloured}

-- a finite value as a whole number of 2 ^ -k, where it is one
unfoldable pub whole_of : ℕ → Float → ℤ
whole_of k nan = pos 0
whole_of k (inf s) = pos 0
whole_of k (fin s m e) = cond s (neg_ℤ (pos (m * up e * 2 ^ k / down e))) (pos (m * up e * 2 ^ k / down e))

-- whether a value is a whole number of 2 ^ -k
unfoldable pub is_whole : ℕ → Float → Bool
is_whole k nan = false
is_whole k (inf s) = false
is_whole k (fin s m e) = eqb (m * up e * 2 ^ k % down e) 0

-- a point with whole coordinates, in units of 2 ^ -149
pub record Whole : Type 0 where
  pub x : ℤ
  pub y : ℤ
  pub z : ℤ

-- vertex i of a patch so; that every f32 is a whole number of 2 ^ -149 is `coordinate_whole`
unfoldable pub whole_at : List Float → ℕ → Whole
whole_at ps i =
    record { x = whole_of 149 (get_or ps (3 * i) nan); y = whole_of 149 (get_or ps (3 * i + 1) nan); z = whole_of 149 (get_or ps (3 * i + 2) nan) }

-- E follows the same formula without rounding: a0(b1c2 − b2c1) − a1(b0c2 − b2c0) + a2(b0c1 − b1c0).
unfoldable pub exact_det : Whole → Whole → Whole → ℤ
exact_det a b c =
    (a.x *ℤ ((b.y *ℤ c.z) -ℤ (b.z *ℤ c.y)) -ℤ a.y *ℤ ((b.x *ℤ c.z) -ℤ (b.z *ℤ c.x)))
    +ℤ a.z *ℤ ((b.x *ℤ c.y) -ℤ (b.y *ℤ c.x))

-- six times the exact volume of some triangles, in (2 ^ -149) ^ 3
unfoldable pub exact_triangles : List Float → Bool → List Triangle → ℤ
exact_triangles ps flip [] = pos 0
exact_triangles ps flip (t ∷ ts) =
    let u = cond flip (reversed t) t in exact_det (whole_at ps u.a) (whole_at ps u.b) (whole_at ps u.c) +ℤ exact_triangles ps flip ts

-- E is a whole number of sixths of (2 ^ -149) ^ 3, and this is the number: the rows of a walk, coloured rows reversed.
unfoldable pub exact_rows : List Patch → List ℕ → List ℕ → ℤ
exact_rows patches [] cs = pos 0
exact_rows patches (n ∷ ns) [] = pos 0
exact_rows patches (n ∷ ns) (c ∷ cs) =
    let p = patch_at patches n in exact_triangles p.positions (eqb c coloured) (triangles_of p.indices) +ℤ exact_rows patches ns cs

-- the largest coordinate of a point, sign dropped
unfoldable pub largest : Whole → ℕ
largest p = max (nat_abs p.x) (max (nat_abs p.y) (nat_abs p.z))

-- the largest coordinate of the corners of one patch
unfoldable pub largest_of : List Float → List ℕ → ℕ
largest_of ps [] = 0
largest_of ps (i ∷ is) = max (largest (whole_at ps i)) (largest_of ps is)

-- T counts the triangles of some rows.
unfoldable pub triangles_in : List Patch → List ℕ → ℕ
triangles_in patches [] = 0
triangles_in patches (n ∷ ns) = length (triangles_of (patch_at patches n).indices) + triangles_in patches ns

-- M is the largest coordinate of their corners, sign dropped, in units of 2 ^ -149.
unfoldable pub largest_in : List Patch → List ℕ → ℕ
largest_in patches [] = 0
largest_in patches (n ∷ ns) = let p = patch_at patches n in max (largest_of p.positions p.indices) (largest_in patches ns)

-- E in sixths of 2 ^ -1074
unfoldable pub exact_volume : List Patch → Group → ℤ
exact_volume patches g = exact_rows patches g.rows g.colours *ℤ pos (2 ^ 627)

-- T × T × M × M × M / 2 ^ 50 in sixths of 2 ^ -1074
unfoldable pub bound : List Patch → Group → ℕ
bound patches g = let t = triangles_in patches g.rows in let m = largest_in patches g.rows in 6 * (t * t * (m * m * m)) * 2 ^ 577

-- V in sixths of 2 ^ -1074
unfoldable pub volume_of : Group → ℤ
volume_of g = whole_of 1074 g.volume *ℤ pos 6

-- V is a whole number of 2 ^ -1074, and lies within the bound of E.
unfoldable pub within_bound : List Patch → Group → Bool
within_bound patches g = is_whole 1074 g.volume && leb (nat_abs (volume_of g -ℤ exact_volume patches g)) (bound patches g)

-- six times the exact volume of some rows of the turned body `after`
unfoldable pub exact_left : List Patch → List ℕ → ℤ
exact_left after [] = pos 0
exact_left after (n ∷ ns) = let p = patch_at after n in exact_triangles p.positions false (triangles_of p.indices) +ℤ exact_left after ns

-- the exact volume of the group as turn leaves it, in sixths of 2 ^ -1074
unfoldable pub volume_left : List Patch → Group → ℤ
volume_left after g = exact_left after g.rows *ℤ pos (2 ^ 627)

-- If E is further from zero than the bound, the exact volume of the group as turn leaves it is E, sign dropped.
unfoldable pub left_outward : List Patch → List Patch → Group → Bool
left_outward patches after g =
    let e = nat_abs (exact_volume patches g) in leb e (bound patches g) || sameℤ (volume_left after g) (pos e)

-- both hold of a group of the body, `after` being the body as turn leaves it
unfoldable pub rule_holds : List Patch → List Patch → Group → Bool
rule_holds patches after g = within_bound patches g && left_outward patches after g

-- every value is one of f32: of a slice of f32 the language knows it
abbrev pub F32s : List Float → Type 0
F32s xs = (k : ℕ) → k < length xs → T (fits binary32 (get_or xs k nan))
