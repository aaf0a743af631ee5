-- Laws of the nodes of the search: which leaves a node has, and the height of the next. Assumes nothing.
use mathlib.Core.Path.{◌≡◌, refl, sym, ap, ◌∙◌, subst}
use mathlib.Core.Bool.{Bool}
use mathlib.Core.List.{List}
use Prim.Native.Nat.{ℕ, zero, suc, ◌+◌, ◌-◌, ◌*◌, ◌/◌, ◌%◌, ◌^◌, ◌<◌, ◌≤◌}
use native.Mathlib.Nat.{add-mod_right, add-mul, mod-one, mod-eq_of_lt}
use native.Mathlib.Omega.{arith}
use lib.ListN.{length}
use lib.Pow.{pow_pos, pow_mono, pow-add, high, split, shl-shr, shr_le, shr_mono, mod-pow-add, mod-mod-pow}
use lib.Ieee.{Float}
use Rattle.stitch_projection.specs.declared.Edge.{Edge}
use Rattle.stitch_boxes.specs.declared.Bounds.{Bounds}
use Rattle.stitch_boxes.specs.Boxes.{far}
use Rattle.stitch_tree.specs.Nodes.{box_at}
use Rattle.stitch_triangle.specs.Triangle.{NodeAt, BoxReady, Raised}

-- leaves from the first of a node on are of it
pub same_node : (leaf h top i : ℕ) → leaf % 2 ^ h ≡ 0 → h ≤ top → leaf ≤ i → i < leaf + 2 ^ h → (2 ^ top + i) / 2 ^ h ≡ (2 ^ top + leaf) / 2 ^ h
same_node leaf h top i z l a b =
    let d = 2 ^ h in
    let k = 2 ^ (top - h) + leaf / d in
    let e : top - h + h ≡ top = omega arith in
    let t : 2 ^ top ≡ 2 ^ (top - h) * d = ap (λ (n : ℕ). 2 ^ n) (sym e) ∙ pow-add 2 (top - h) h in
    let q : leaf / d * d + leaf % d ≡ leaf = split leaf h in
    let m : k * d ≡ 2 ^ (top - h) * d + leaf / d * d = add-mul (2 ^ (top - h)) (leaf / d) d in
    let r : i - leaf < d = below (2 ^ h) b in
    let u : 2 ^ top + i ≡ k * d + (i - leaf) = sum (2 ^ top) (2 ^ (top - h) * d) (leaf / d * d) (leaf % d) (k * d) t q z m in
    let v : 2 ^ top + leaf ≡ k * d + 0 = plain (2 ^ top) (2 ^ (top - h) * d) (leaf / d * d) (leaf % d) (k * d) t q z m in
    ap (λ (n : ℕ). n / d) u ∙ high k h r ∙ sym (ap (λ (n : ℕ). n / d) v ∙ high k h (pow_pos h))
  where
    below : (d : ℕ) → i < leaf + d → i - leaf < d
    below d b = omega arith

    sum : (t x y m n : ℕ) → t ≡ x → y + m ≡ leaf → m ≡ 0 → n ≡ x + y → t + i ≡ n + (i - leaf)
    sum t x y m n p q z w = omega arith

    plain : (t x y m n : ℕ) → t ≡ x → y + m ≡ leaf → m ≡ 0 → n ≡ x + y → t + leaf ≡ n + 0
    plain t x y m n p q z w = omega arith

-- a node is one of the tree's
module _ {leaf height top : ℕ} (n : NodeAt leaf height top) where
  pub node_some : 1 ≤ (2 ^ top + leaf) / 2 ^ height
  node_some =
      let one : 1 * 2 ^ height / 2 ^ height ≡ 1 = shl-shr 1 height in
      let l : 1 * 2 ^ height / 2 ^ height ≤ (2 ^ top + leaf) / 2 ^ height = shr_mono height (fits (2 ^ height) (2 ^ top) (pow_mono n.low)) in
      under (1 * 2 ^ height / 2 ^ height) ((2 ^ top + leaf) / 2 ^ height) one l
    where
      fits : (a b : ℕ) → a ≤ b → 1 * a ≤ b + leaf
      fits a b l = omega arith

      under : (a b : ℕ) → a ≡ 1 → a ≤ b → 1 ≤ b
      under a b e l = omega arith

  pub node_low : (2 ^ top + leaf) / 2 ^ height < 2 * 2 ^ top
  node_low = under ((2 ^ top + leaf) / 2 ^ height) (2 ^ top) (shr_le (2 ^ top + leaf) height) n.inside
    where
      under : (a t : ℕ) → a ≤ t + leaf → leaf < t → a < 2 * t
      under a t p q = omega arith

-- a leaf whose node is the first of two is the first of a node one higher
pub one_higher : (leaf h : ℕ) → leaf % 2 ^ h ≡ 0 → leaf / 2 ^ h % 2 ≡ 0 → leaf % 2 ^ (h + 1) ≡ 0
one_higher leaf h a b =
    let e : h + 1 ≡ 1 + h = omega arith in
    ap (λ (k : ℕ). leaf % 2 ^ k) e ∙ mod-pow-add leaf 1 h ∙ (λ i. b i * 2 ^ h + a i) ∙ none (2 ^ h)
  where
    none : (d : ℕ) → 0 * d + 0 ≡ 0
    none d = omega arith

-- the first leaf of a node is the first of its first half
pub one_lower : (leaf h : ℕ) → leaf % 2 ^ (1 + h) ≡ 0 → leaf % 2 ^ h ≡ 0
one_lower leaf h z = sym (mod-mod-pow leaf 1 h) ∙ ap (λ (k : ℕ). k % 2 ^ h) z ∙ mod-eq_of_lt (pow_pos h)

-- the leaf behind a node is the first of one of its height
pub next_first : (leaf h : ℕ) → leaf % 2 ^ h ≡ 0 → (leaf + 2 ^ h) % 2 ^ h ≡ 0
next_first leaf h z = add-mod_right leaf (2 ^ h) ∙ z

-- every leaf is the first of its own node
pub any_first : (leaf : ℕ) → leaf % 2 ^ 0 ≡ 0
any_first leaf = mod-one leaf

-- ---- the height of the next node

-- a height that the first leaf of the node at `height` keeps
pub record Raising (leaf height top h : ℕ) : Type 0 where
  pub low : h ≤ top
  pub first : leaf % 2 ^ height ≡ 0 → leaf % 2 ^ h ≡ 0

pub raising_start : {leaf height top : ℕ} → height ≤ top → Raising leaf height top height
raising_start l = record { low = l; first = λ z. z }

pub raising_more : {leaf height top h : ℕ} → Raising leaf height top h → h < top → (leaf / 2 ^ h % 2 ≡ 1 → ⊥) → Raising leaf height top (h + 1)
raising_more {leaf} {height} {top} {h} r l n =
    record { low = omega arith; first = λ z. one_higher leaf h (r.first z) (even (leaf / 2 ^ h) n) }
  where
    even : (x : ℕ) → (x % 2 ≡ 1 → ⊥) → x % 2 ≡ 0
    even x n = omega arith

-- none of them had a second half
pub raising_end : {leaf height top h : ℕ} → Raising leaf height top h → top ≤ h → Raised leaf height top top
raising_end {leaf} {height} {top} {h} r l =
    let e : h ≡ top = omega (arith, r.low) in
    record { low = omega arith; first = λ z. subst (λ (k : ℕ). leaf % 2 ^ k ≡ 0) e (r.first z) }

pub raising_done : {leaf height top h : ℕ} → Raising leaf height top h → Raised leaf height top h
raising_done r = record { low = r.low; first = r.first }

-- ---- its box
