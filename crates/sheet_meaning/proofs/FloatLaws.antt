-- The laws of bits copied as floats, and of the box. Assumes nothing.
use mathlib.Core.List.{List, [], ◌∷◌, ◌++◌, map}
use mathlib.Core.Path.{◌≡◌, sym, ◌∙◌, ap, subst}
use Prim.Native.Nat.{ℕ, ◌+◌, ◌≤◌, ◌<◌}
use native.Mathlib.Omega.{arith}
use lib.Ieee.{Float}
use lib.ListN.{length, get_or, take, drop, set, length-map, get_or-map}
use Rattle.lists.specs.Copied.{Copied, copied_none, copied_more, copied_all, copied_full}
use Rattle.float_steps.specs.Floats.{f32, f64}
use Rattle.patch_geometry.specs.declared.Vec3.{Vec3}
use Rattle.patch_geometry.specs.declared.Aabb.{Aabb}
use Rattle.sheet_meaning.specs.Meaning.{box_of}

-- the bits are copied to the front of a slice, each as its float
abbrev pub Floated : List ℕ → List Float → List Float → ℕ → Type 0
Floated B E W i = Copied (map f32 B) E W i

-- none is yet
pub floated_none : (B : List ℕ) (E : List Float) → Floated B E E 0
floated_none B E = copied_none (map f32 B) E

module _ (B : List ℕ) (E W : List Float) (i : ℕ) (v : Floated B E W i) where
  -- one more
  pub floated_more : (x : Float) → i < length B → i < length W → x ≡ f32 (get_or B i 0) → Floated B E (set W i x) (i + 1)
  floated_more x h l e =
      subst (λ (y : Float). Floated B E (set W i y) (i + 1)) (get_or-map f32 B i 0 ∙ sym e)
      (copied_more v (f32 0) (omega (arith, length-map B f32)) l)

  -- all of them
  pub floated_all : length B ≤ i → W ≡ take (length E) (map f32 B) ++ drop (length B) E
  floated_all h = copied_all v (omega (arith, length-map B f32)) ∙ ap (λ (n : ℕ). take (length E) (map f32 B) ++ drop n E) (length-map B f32)

  -- as many as there is room for
  pub floated_full : i < length B → length W ≤ i → W ≡ take (length E) (map f32 B) ++ drop (length B) E
  floated_full l h = copied_full v (omega (arith, length-map B f32)) h ∙ ap (λ (n : ℕ). take (length E) (map f32 B) ++ drop n E) (length-map B f32)

pub box_is : (a b c d e f : ℕ) (p q : Vec3) → p ≡ record { x = f64 a; y = f64 b; z = f64 c } → q ≡ record { x = f64 d; y = f64 e; z = f64 f }
    → ◌≡◌ {A = Aabb} (record { min = p; max = q }) (box_of (a ∷ b ∷ c ∷ d ∷ e ∷ f ∷ []))
unfolding box_of
box_is a b c d e f p q g h = ap (λ (x : Vec3). record { min = x; max = q }) g ∙ ap (λ (x : Vec3). record { min = record { x = f64 a; y = f64 b; z = f64 c }; max = x }) h

pub point_is : (a b c : ℕ) (u v w : Float) (p : Vec3) → u ≡ f64 a → v ≡ f64 b → w ≡ f64 c → p ≡ record { x = u; y = v; z = w } → p ≡ record { x = f64 a; y = f64 b; z = f64 c }
point_is a b c u v w p d e f q =
    q
    ∙ ap (λ (t : Float). record { x = t; y = v; z = w }) d
    ∙ ap (λ (t : Float). record { x = f64 a; y = t; z = w }) e
    ∙ ap (λ (t : Float). record { x = f64 a; y = f64 b; z = t }) f
