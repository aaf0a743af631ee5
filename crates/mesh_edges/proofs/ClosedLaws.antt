-- Laws of whether a mesh is closed: a look for −0.0, and the counts by which it is told. Assumes nothing.
use mathlib.Core.Path.{◌≡◌, refl, sym, ap, ◌∙◌}
use mathlib.Core.Bool.{Bool, true, false, not, ◌&&◌, ◌||◌}
use mathlib.Core.List.{List}
use Prim.Native.Nat.{ℕ, ◌+◌, ◌^◌, ◌<◌}
use native.Mathlib.Omega.{arith}
use borrow.Author.Tests.{not-true}
use lib.Dec.{eqb}
use lib.ListN.{length, get_or}
use lib.Ieee.{Float, nan}
use Rattle.lists.specs.Lists.{any}
use Rattle.lists.specs.Any.{Looked, looked_more}
use Rattle.float_steps.specs.Floats.{bits32}
use Rattle.point_rules.specs.Points.{bits, zeros}
use Rattle.point_rules.specs.Zeros.{minus_zero, zeros_bits}
use Rattle.join_points.specs.declared.vertices.Rule.TheVariants as Rule
use Rattle.join_points.specs.Rules.{rule_of}
use Rattle.mesh_counts.specs.Counts.{closed_by, closed_mesh, counts_of}
use Rattle.mesh_tally.specs.declared.EdgeCounts.{EdgeCounts}
use Rattle.mesh_tally.specs.Tally.{counts_in}
use Rattle.mesh_edges.specs.Mesh.{ClosedTold, EdgesCounted, MeshCounted, MeshReady}

-- ---- a look for −0.0

-- position k is looked at
pub minus_more : (ps : List Float) (k : ℕ) {found : Bool} → Looked minus_zero ps k found → k < length ps → {b : ℕ} → b ≡ bits32 (get_or ps k nan)
    → Looked minus_zero ps (k + 1) (found || eqb b 2147483648)
minus_more ps k v h e = looked_more nan v h (ap (λ (n : ℕ). eqb n (2 ^ 31)) e)

-- ---- closed by counts
pub closed_is : (c : EdgeCounts) {r : Bool} → r ≡ (eqb c.opens 0 && eqb c.overs 0) → r ≡ closed_by (counts_in c)
unfolding closed_by
closed_is c e = e

-- ---- the mesh
module _ (ps : List Float) (is : List ℕ) (v : ℕ) (W : List ℕ) where
  -- without −0.0 the counts by bits decide
  same_counts : any minus_zero ps ≡ false → counts_of bits ps is ≡ counts_of zeros ps is
  unfolding counts_of
  same_counts e = rw (zeros_bits ps e)

  pub closed_once : (c : EdgeCounts) {t r : Bool} → counts_in c ≡ counts_of bits ps is → t ≡ any minus_zero ps → not t ≡ true → r ≡ closed_by (counts_in c) → ClosedTold ps is v W r W
  unfolding closed_mesh
  closed_once c {t} {r} e q n f =
      record { closed = f ∙ ap closed_by (e ∙ same_counts (sym q ∙ not-true t n)); rest = refl }

  pub closed_twice : (c : EdgeCounts) {r : Bool} {E : List ℕ} → MeshCounted Rule.Zeros ps is v W c E → r ≡ closed_by (counts_in c) → ClosedTold ps is v W r E
  unfolding closed_mesh rule_of
  closed_twice c m f = record { closed = f ∙ ap closed_by m.counts; rest = m.rest }

  module _ (c : EdgeCounts) {X : List ℕ} (m : MeshCounted Rule.Bits ps is v W c X) where
    pub bits_counts : counts_in c ≡ counts_of bits ps is
    unfolding rule_of
    bits_counts = m.counts

    pub edges_counted : {r : Bool} {E : List ℕ} → ClosedTold ps is v X r E → EdgesCounted ps is v W (record { counts = c; closed = r }) E
    edges_counted t = record { counts = bits_counts; closed = t.closed; rest = t.rest ∙ m.rest }

  -- the work area is as long as it was
  pub ready_after : {X : List ℕ} → MeshReady ps is v W → length X ≡ length W → MeshReady ps is v X
  ready_after g l = record { all = g.all; few_vertices = g.few_vertices; few_indices = g.few_indices; whole = g.whole; inside = g.inside; room = omega (arith, g.room) }
