-- A swapped triangle has the opposite determinant; so a turned group has E or its opposite. Assumes nothing.
use Rattle.std.specs.Prelude.{◌≡◌, refl, ◌⊎◌, ℕ, zero, suc, ◌<◌, Bool, true, false, not, cond, eqb, length, ℤ, pos, negsuc, neg_ℤ, ◌+ℤ◌, ◌-ℤ◌, ◌*ℤ◌, Float}
use Rattle.std.proofs.Common.{sym, ap, ◌∙◌, inl, inr, le_of_suc-le-suc, not-suc-le-zero, arith}
use mathlib.Core.List.{List, [], ◌∷◌, map}
use Rattle.std.proofs.Math.ListN.{get_or}
use Rattle.std.proofs.Math.IntN.{*ℤ_comm, neg_ℤ-+ℤ}
use Rattle.std.specs.Float.Ieee.{neg}
use Rattle.body_rows.specs.Body.{Patch, Triangle, triangles_of}
use Rattle.turn_definition.specs.Inversion.{patch_at}
use Rattle.turn_definition.specs.Reversal.{swapped, turned_patch, turned_body}
use Rattle.turn_walk.specs.Walk.{coloured, unvisited, opposite}
use Rattle.turn_volume_rule.specs.Exact.{Whole, whole_at, exact_det, exact_triangles, exact_rows, exact_left}
use Rattle.turn_volume_rule.specs.Ints.{Is, above, below, is_neg, is_add, is_sub, is_mul, is_same, is_cast}

-- ---- what is needed of whole numbers
pub is_self : (z : ℤ) → Is z (above z) (below z)
is_self (pos n) = record { eq = omega arith }
is_self (negsuc n) = record { eq = omega arith }

mul_neg : (y z : ℤ) → y *ℤ neg_ℤ z ≡ neg_ℤ (y *ℤ z)
mul_neg y z = is_same (y *ℤ neg_ℤ z) (neg_ℤ (y *ℤ z)) (is_mul y (neg_ℤ z) (is_self y) (is_neg z (is_self z))) (is_neg (y *ℤ z) (is_mul y z (is_self y) (is_self z)))

sub_swap : (y z : ℤ) → y -ℤ z ≡ neg_ℤ (z -ℤ y)
sub_swap y z = is_same (y -ℤ z) (neg_ℤ (z -ℤ y)) (is_sub y z (is_self y) (is_self z))
    (is_cast (neg_ℤ (z -ℤ y)) _ _ (is_neg (z -ℤ y) (is_sub z y (is_self z) (is_self y))) (omega arith))

neg_three : (x y z : ℤ) → (neg_ℤ x -ℤ neg_ℤ y) +ℤ neg_ℤ z ≡ neg_ℤ ((x -ℤ y) +ℤ z)
neg_three x y z = is_same ((neg_ℤ x -ℤ neg_ℤ y) +ℤ neg_ℤ z) (neg_ℤ ((x -ℤ y) +ℤ z))
    (is_add (neg_ℤ x -ℤ neg_ℤ y) (neg_ℤ z) (is_sub (neg_ℤ x) (neg_ℤ y) (is_neg x (is_self x)) (is_neg y (is_self y))) (is_neg z (is_self z)))
    (is_neg ((x -ℤ y) +ℤ z) (is_add (x -ℤ y) z (is_sub x y (is_self x) (is_self y)) (is_self z)))

-- ---- corners 1 and 2 swapped
cross_swap : (p q r s : ℤ) → p *ℤ q -ℤ r *ℤ s ≡ neg_ℤ (s *ℤ r -ℤ q *ℤ p)
cross_swap p q r s = sub_swap (p *ℤ q) (r *ℤ s) ∙ (λ i. neg_ℤ (*ℤ_comm r s i -ℤ *ℤ_comm p q i))

term_swap : (a p q r s : ℤ) → a *ℤ (p *ℤ q -ℤ r *ℤ s) ≡ neg_ℤ (a *ℤ (s *ℤ r -ℤ q *ℤ p))
term_swap a p q r s = ap (λ (z : ℤ). a *ℤ z) (cross_swap p q r s) ∙ mul_neg a (s *ℤ r -ℤ q *ℤ p)

pub det_swap : (a b c : Whole) → exact_det a c b ≡ neg_ℤ (exact_det a b c)
unfolding exact_det
det_swap a b c =
    (λ i. (term_swap a.x c.y b.z c.z b.y i -ℤ term_swap a.y c.x b.z c.z b.x i) +ℤ term_swap a.z c.x b.y c.y b.x i)
    ∙ neg_three (a.x *ℤ ((b.y *ℤ c.z) -ℤ (b.z *ℤ c.y))) (a.y *ℤ ((b.x *ℤ c.z) -ℤ (b.z *ℤ c.x))) (a.z *ℤ ((b.x *ℤ c.y) -ℤ (b.y *ℤ c.x)))

pub triangles_flip : (ps : List Float) (flip : Bool) (ts : List Triangle) → exact_triangles ps (not flip) ts ≡ neg_ℤ (exact_triangles ps flip ts)
unfolding exact_triangles
triangles_flip ps flip [] = refl
triangles_flip ps true (t ∷ ts) =
    (λ i. twice i +ℤ triangles_flip ps true ts i)
    ∙ sym (neg_ℤ-+ℤ (exact_det (whole_at ps t.a) (whole_at ps t.c) (whole_at ps t.b)) (exact_triangles ps true ts))
  where
    twice : exact_det (whole_at ps t.a) (whole_at ps t.b) (whole_at ps t.c) ≡ neg_ℤ (exact_det (whole_at ps t.a) (whole_at ps t.c) (whole_at ps t.b))
    twice = det_swap (whole_at ps t.a) (whole_at ps t.c) (whole_at ps t.b)
triangles_flip ps false (t ∷ ts) =
    (λ i. det_swap (whole_at ps t.a) (whole_at ps t.b) (whole_at ps t.c) i +ℤ triangles_flip ps false ts i)
    ∙ sym (neg_ℤ-+ℤ (exact_det (whole_at ps t.a) (whole_at ps t.b) (whole_at ps t.c)) (exact_triangles ps false ts))

pub triangles_swapped : (ps : List Float) (is : List ℕ) → exact_triangles ps false (triangles_of (swapped is)) ≡ exact_triangles ps true (triangles_of is)
unfolding exact_triangles triangles_of swapped
triangles_swapped ps [] = refl
triangles_swapped ps (a ∷ []) = refl
triangles_swapped ps (a ∷ b ∷ []) = refl
triangles_swapped ps (a ∷ b ∷ c ∷ is) = ap (λ (z : ℤ). exact_det (whole_at ps a) (whole_at ps c) (whole_at ps b) +ℤ z) (triangles_swapped ps is)

-- ---- a row of the turned body
pub turned_at : (cs : List ℕ) (ps : List Patch) (n : ℕ) → n < length ps → patch_at (turned_body cs ps) n ≡ turned_patch (get_or cs n unvisited) (patch_at ps n)
unfolding patch_at turned_body turned_patch
turned_at [] ps n h = refl
turned_at (c ∷ cs) [] n h = absurd (not-suc-le-zero h)
turned_at (c ∷ cs) (p ∷ ps) zero h = refl
turned_at (c ∷ cs) (p ∷ ps) (suc n) h = turned_at cs ps n (le_of_suc-le-suc h)

abbrev pub exact_patch : Patch → Bool → ℤ
exact_patch p flip = exact_triangles p.positions flip (triangles_of p.indices)

turned_exact : (c : ℕ) (p : Patch) → exact_patch (turned_patch c p) false ≡ exact_patch p (eqb c coloured)
unfolding turned_patch
turned_exact c p = go (eqb c coloured)
  where
    go : (b : Bool) → exact_patch (cond b (record { row = p.row; positions = p.positions; normals = map neg p.normals; indices = swapped p.indices }) p) false ≡ exact_patch p b
    go true = triangles_swapped p.positions p.indices
    go false = refl

-- ---- the rows of a group: their colours, and the same inverted or not
pub record Settled (patches : List Patch) (cols final : List ℕ) (flip : Bool) (n : ℕ) : Type 0 where
  pub row : n < length patches
  pub two : (get_or cols n unvisited ≡ 1) ⊎ (get_or cols n unvisited ≡ 2)
  pub left : get_or final n unvisited ≡ cond flip (opposite (get_or cols n unvisited)) (get_or cols n unvisited)

pub data All {A : Type 0} (P : A → Type 0) : List A → Type 0 where
  none : All P []
  more : {n : A} {ns : List A} → P n → All P ns → All P (n ∷ ns)

flag : (c d : ℕ) (flip : Bool) → (c ≡ 1) ⊎ (c ≡ 2) → d ≡ cond flip (opposite c) c → eqb d coloured ≡ cond flip (not (eqb c coloured)) (eqb c coloured)
flag c d false h e = ap (λ (x : ℕ). eqb x coloured) e
flag c d true (inl h) e = ap (λ (x : ℕ). eqb x coloured) e ∙ ap (λ (x : ℕ). eqb (opposite x) coloured) h ∙ sym (ap (λ (x : ℕ). not (eqb x coloured)) h)
flag c d true (inr h) e = ap (λ (x : ℕ). eqb x coloured) e ∙ ap (λ (x : ℕ). eqb (opposite x) coloured) h ∙ sym (ap (λ (x : ℕ). not (eqb x coloured)) h)

-- E, or its opposite
abbrev pub opposed : Bool → ℤ → ℤ
opposed flip z = cond flip (neg_ℤ z) z

module _ (patches : List Patch) (cols final : List ℕ) (flip : Bool) where
  row_left : (n : ℕ) → Settled patches cols final flip n → exact_patch (patch_at (turned_body final patches) n) false
      ≡ opposed flip (exact_patch (patch_at patches n) (eqb (get_or cols n unvisited) coloured))
  row_left n s =
      ap (λ (p : Patch). exact_patch p false) (turned_at final patches n s.row)
      ∙ turned_exact (get_or final n unvisited) (patch_at patches n)
      ∙ ap (λ (b : Bool). exact_patch (patch_at patches n) b) (flag (get_or cols n unvisited) (get_or final n unvisited) flip s.two s.left)
      ∙ go flip
    where
      go : (f : Bool) → exact_patch (patch_at patches n) (cond f (not (eqb (get_or cols n unvisited) coloured)) (eqb (get_or cols n unvisited) coloured))
          ≡ opposed f (exact_patch (patch_at patches n) (eqb (get_or cols n unvisited) coloured))
      go true = triangles_flip (patch_at patches n).positions (eqb (get_or cols n unvisited) coloured) (triangles_of (patch_at patches n).indices)
      go false = refl

  opposed_add : (f : Bool) (y z : ℤ) → opposed f y +ℤ opposed f z ≡ opposed f (y +ℤ z)
  opposed_add true y z = sym (neg_ℤ-+ℤ y z)
  opposed_add false y z = refl

  opposed_zero : (f : Bool) → pos 0 ≡ opposed f (pos 0)
  opposed_zero true = refl
  opposed_zero false = refl

  pub rows_left : (rows : List ℕ) → All (Settled patches cols final flip) rows
      → exact_left (turned_body final patches) rows ≡ opposed flip (exact_rows patches rows (map (λ n. get_or cols n unvisited) rows))
  unfolding exact_left exact_rows
  rows_left [] g = opposed_zero flip
  rows_left (n ∷ ns) (more s g) =
      (λ i. row_left n s i +ℤ rows_left ns g i)
      ∙ opposed_add flip (exact_patch (patch_at patches n) (eqb (get_or cols n unvisited) coloured)) (exact_rows patches ns (map (λ n. get_or cols n unvisited) ns))
