-- Laws of the names of vertices. Assumes nothing.
use Rattle.std.proofs.Common.{◌≡◌, ℕ, ◌+◌, ◌*◌, ◌%◌, ◌^◌, ◌<◌, Bool, true, false, not, eqb, List, length, get_or, sym, refl, ap, ◌∙◌, subst, arith, eq-eqb, ne_eqb}
use native.Mathlib.Decide.{ℕ_discrete}
use lib.Ieee.{Float, nan}
use lib.Pow.{high, low}
use borrow.Author.Tests.{not-true, not-false}
use Rattle.float_steps.specs.Floats.{bits32}
use Rattle.point_rules.specs.Points.{key, bits, zeros}
use Rattle.point_rules.specs.Bits.{Bits32, bits_by, bits_of, front_bits, digest}
use Rattle.point_rules.specs.Rule.{names, VertexInside, Both}
use Rattle.point_rules.specs.Names.{names_at}

-- the key of a vertex is its name
pub key_named : (ps : List Float) (i : ℕ) {r : ℕ} → VertexInside i ps → r ≡ key (get_or ps (3 * i) nan) (get_or ps (3 * i + 1) nan) (get_or ps (3 * i + 2) nan)
    → r ≡ get_or (names key ps) i 0
key_named ps i w e = e ∙ sym (names_at key ps i nan w.low)

-- the first two numbers as one
pub front_is : (joined : Bool) (ps : List Float) (i : ℕ) {x y : ℕ} → Bits32 joined (get_or ps (3 * i) nan) x → Bits32 joined (get_or ps (3 * i + 1) nan) y
    → x * 2 ^ 32 + y ≡ front_bits joined ps i
unfolding front_bits
front_is joined ps i x y = (λ k. x.bits k * 2 ^ 32 + y.bits k)

-- a name by the bits of its coordinates
by_bits : (joined : Bool) (x y z : Float) → bits_by joined x y z ≡ (bits_of joined x * 2 ^ 32 + bits_of joined y) * 2 ^ 32 + bits_of joined z
unfolding bits_by bits zeros
by_bits false x y z = refl
by_bits true x y z = refl

-- the name by its two parts
two_parts : (joined : Bool) (ps : List Float) (i : ℕ) {f z : ℕ} → 3 * i + 2 < length ps → f ≡ front_bits joined ps i → Bits32 joined (get_or ps (3 * i + 2) nan) z
    → get_or (names (bits_by joined) ps) i 0 ≡ f * 2 ^ 32 + z
unfolding front_bits
two_parts joined ps i w e z =
    names_at (bits_by joined) ps i nan w ∙ by_bits joined (get_or ps (3 * i) nan) (get_or ps (3 * i + 1) nan) (get_or ps (3 * i + 2) nan) ∙ (λ k. sym e k * 2 ^ 32 + sym z.bits k)

-- names that differ in the last number differ
pub last_differs : (joined : Bool) (ps : List Float) (i j : ℕ) {a b : ℕ} → Both i j ps → Bits32 joined (get_or ps (3 * i + 2) nan) a → Bits32 joined (get_or ps (3 * j + 2) nan) b
    → (a ≡ b → ⊥) → false ≡ eqb (get_or (names (bits_by joined) ps) i 0) (get_or (names (bits_by joined) ps) j 0)
last_differs joined ps i j {a} {b} w za zb n =
    sym (ne_eqb _ _ (λ e. n (parts (front_bits joined ps i) (front_bits joined ps j) a b
    za.few zb.few (sym (two_parts joined ps i w.low refl za) ∙ e ∙ two_parts joined ps j w.low₂ refl zb))))
  where
    parts : (f g a b : ℕ) → a < 2 ^ 32 → b < 2 ^ 32 → f * 2 ^ 32 + a ≡ g * 2 ^ 32 + b → a ≡ b
    parts f g a b la lb e = omega arith

-- names that agree in it are the same if the others are
pub fronts_decide : (joined : Bool) (ps : List Float) (i j : ℕ) {a b f g : ℕ} → Both i j ps → Bits32 joined (get_or ps (3 * i + 2) nan) a → Bits32 joined (get_or ps (3 * j + 2) nan) b
    → a ≡ b → f ≡ front_bits joined ps i → g ≡ front_bits joined ps j → eqb f g ≡ eqb (get_or (names (bits_by joined) ps) i 0) (get_or (names (bits_by joined) ps) j 0)
fronts_decide joined ps i j {a} {b} {f} {g} w za zb e ef eg =
    same f g a b e ∙ (λ k. eqb (sym (two_parts joined ps i w.low ef za) k) (sym (two_parts joined ps j w.low₂ eg zb) k))
  where
    same : (f g a b : ℕ) → a ≡ b → eqb f g ≡ eqb (f * 2 ^ 32 + a) (g * 2 ^ 32 + b)
    same f g a b e = go (ℕ_discrete f g)
      where
        back : f * 2 ^ 32 + a ≡ g * 2 ^ 32 + b → f ≡ g
        back q = omega arith

        go : Dec (f ≡ g) → eqb f g ≡ eqb (f * 2 ^ 32 + a) (g * 2 ^ 32 + b)
        go (yes p) = eq-eqb f g p ∙ sym (eq-eqb _ _ (λ k. p k * 2 ^ 32 + e k))
        go (no n) = ne_eqb f g n ∙ sym (ne_eqb _ _ (λ q. n (back q)))

-- the digest that the code makes is that of the name
pub digest_is : (joined : Bool) (ps : List Float) (i : ℕ) {r f z m : ℕ} → VertexInside i ps → f ≡ front_bits joined ps i → Bits32 joined (get_or ps (3 * i + 2) nan) z
    → m ≡ f * 11400714819323198485 % 2 ^ 64 → r ≡ (m + z * 2246822507) % 2 ^ 64 → r ≡ digest (get_or (names (bits_by joined) ps) i 0)
unfolding digest
digest_is joined ps i {f = f} {z = z} w ef ez em er =
    er
    ∙ ap (λ (x : ℕ). (x + z * 2246822507) % 2 ^ 64) em
    ∙ (λ k. (sym (high f 32 ez.few) k * 11400714819323198485 % 2 ^ 64 + sym (low f 32 ez.few) k * 2246822507) % 2 ^ 64)
    ∙ ap digest (sym (two_parts joined ps i w.low ef ez))

-- ---- the bits of a number
module _ (joined : Bool) (x : Float) {b : ℕ} (e : b ≡ bits32 x) (l : b < 2 ^ 32) where
  pub bits_apart : not joined ≡ true → Bits32 joined x b
  bits_apart q = subst (λ (j : Bool). Bits32 j x b) (sym (not-true joined q)) (record { bits = e; few = l })

  module _ (q : not joined ≡ false) where
    is_joined : true ≡ joined
    is_joined = sym (not-false joined q)

    pub bits_minus_zero : b ≡ 2147483648 → Bits32 joined x 0
    bits_minus_zero h = subst (λ (j : Bool). Bits32 j x 0) is_joined (record { bits = rw (sym e, eq-eqb b (2 ^ 31) h); few = omega arith })

    pub bits_joined : (b ≡ 2147483648 → ⊥) → Bits32 joined x b
    bits_joined h = subst (λ (j : Bool). Bits32 j x b) is_joined (record { bits = e ∙ rw (sym e, ne_eqb b (2 ^ 31) h); few = l })
