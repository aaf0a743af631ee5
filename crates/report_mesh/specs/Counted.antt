-- The page's counts of a body's rows, by the accepted patches and the failures that assembling writes. Assumes nothing.
use Rattle.std.specs.Prelude.{◌≡◌, Bool, true, false, ◌&&◌, ltb, eqb, Float}
use Rattle.std.proofs.Math.Path.{refl, ap}
use Rattle.std.proofs.Common.{sym, ◌∙◌, arith, ne_eqb, lt-ltb, ltb-false}
use Rattle.std.proofs.Math.Bool.{not, cond}
use mathlib.Core.List.{List, [], ◌∷◌, ◌++◌, flat_map}
use Rattle.std.proofs.Math.Option.{Option, none, some}
use Prim.Native.Nat.{ℕ, suc, ◌+◌, ◌*◌, ◌%◌, ◌≤◌, ◌<◌}
use Rattle.std.proofs.Math.ListN.{length}
use Rattle.std.proofs.lemmas.Bool.{eqb-false}
use Rattle.lists.specs.Lists.{count_if, filter, sum_of}
use Rattle.lists.specs.Each.{Each}
use Rattle.lists.specs.Both.{or_left}
use Rattle.body_rows.specs.Body.{Patch, triangles_of}
use Rattle.body_refusals.specs.TableChecks.{bad_row}
use Rattle.patch_geometry.specs.declared.Aabb.{Aabb}
use Rattle.patch_measures.specs.Reach.{farthest, escapes_body}
use Rattle.patch_geometry.specs.Geometry.{diagonal}
use Rattle.mesh_materials.specs.Materials.{material_of}
use Rattle.mesh_verdicts.specs.declared.Failure.{Failure}
use Rattle.mesh_verdicts.specs.declared.Failure.TheVariants.{Empty, Upstream, Escape}
use Rattle.mesh_verdicts.specs.Failures.{escape_of, failure_by, failure_of}
use Rattle.mesh_acceptance.specs.Acceptance.{Failed, Acceptance, with_patch, acceptance, accepted_vertices, accepted_indices, failure_width, failure_numbers}
use Rattle.report_definition.specs.Page.{is_accepted, is_empty, is_upstream, is_escape, accepted_of}
use Rattle.report_definition.specs.Limits.{triangles_length}

-- ---- accepted patches and failures

module _ (box : Aabb) (materials : List ℕ) (default : ℕ) where
  -- what acceptance makes of some patches
  abbrev verdicts : List Patch → Acceptance
  verdicts patches = acceptance box materials default patches

  -- the material of a patch
  abbrev material : Patch → ℕ
  material p = material_of materials default p.row.face

  -- As many rows are accepted as there are accepted patches,
  pub accepted_many : (patches : List Patch) → count_if (λ p. is_accepted (failure_of box p)) patches ≡ length (acceptance box materials default patches).accepted
  unfolding count_if acceptance with_patch
  accepted_many [] = refl
  accepted_many (p ∷ ps) = go (failure_of box p) (count_if (λ p. is_accepted (failure_of box p)) ps) (verdicts ps) (accepted_many ps)
    where
      go : (o : Option Failure) (n : ℕ) (rest : Acceptance) → n ≡ length rest.accepted → cond (is_accepted o) (suc n) n ≡ length (with_patch p (material p) o rest).accepted
      go none n rest h = ap suc h
      go (some f) n rest h = h

  -- as many failed as there are failures,
  pub failed_many : (patches : List Patch) → count_if (λ p. not (is_accepted (failure_of box p))) patches ≡ length (acceptance box materials default patches).failed
  unfolding count_if acceptance with_patch
  failed_many [] = refl
  failed_many (p ∷ ps) = go (failure_of box p) (count_if (λ p. not (is_accepted (failure_of box p))) ps) (verdicts ps) (failed_many ps)
    where
      go : (o : Option Failure) (n : ℕ) (rest : Acceptance) → n ≡ length rest.failed → cond (not (is_accepted o)) (suc n) n ≡ length (with_patch p (material p) o rest).failed
      go none n rest h = h
      go (some f) n rest h = ap suc h

  -- as many vertices,
  pub vertices_many : (patches : List Patch) → sum_of (λ p. p.row.vertices) (accepted_of box patches) ≡ accepted_vertices (acceptance box materials default patches).accepted
  unfolding accepted_of filter sum_of accepted_vertices acceptance with_patch
  vertices_many [] = refl
  vertices_many (p ∷ ps) = go (failure_of box p) (filter (λ p. is_accepted (failure_of box p)) ps) (verdicts ps) (vertices_many ps)
    where
      go : (o : Option Failure) (fs : List Patch) (rest : Acceptance) → sum_of (λ p. p.row.vertices) fs ≡ sum_of (λ a. a.patch.row.vertices) rest.accepted
          → sum_of (λ p. p.row.vertices) (cond (is_accepted o) (p ∷ fs) fs) ≡ sum_of (λ a. a.patch.row.vertices) (with_patch p (material p) o rest).accepted
      go none fs rest h = ap (λ (n : ℕ). p.row.vertices + n) h
      go (some f) fs rest h = h

  -- and three indices for each triangle of theirs.
  pub triangles_many : (patches : List Patch) → Each (λ p. length p.indices % 3 ≡ 0) patches
      → 3 * sum_of (λ p. length (triangles_of p.indices)) (accepted_of box patches) ≡ accepted_indices (acceptance box materials default patches).accepted
  unfolding accepted_of filter sum_of accepted_indices acceptance with_patch
  triangles_many [] e = refl
  triangles_many (p ∷ ps) e = go (failure_of box p) (filter (λ p. is_accepted (failure_of box p)) ps) (verdicts ps) (triangles_many ps e.1)
    where
      go : (o : Option Failure) (fs : List Patch) (rest : Acceptance)
          → 3 * sum_of (λ p. length (triangles_of p.indices)) fs ≡ sum_of (λ a. length a.patch.indices) rest.accepted
          → 3 * sum_of (λ p. length (triangles_of p.indices)) (cond (is_accepted o) (p ∷ fs) fs)
          ≡ sum_of (λ a. length a.patch.indices) (with_patch p (material p) o rest).accepted
      go none fs rest h = omega (arith, e.0, triangles_length p.indices)
      go (some f) fs rest h = h

  -- ---- failures by kind

  -- As many rows fail in a way as there are such failures.
  pub kind_many : (k : Option Failure → Bool) → k none ≡ false → (patches : List Patch)
      → count_if (λ p. k (failure_of box p)) patches ≡ count_if (λ f. k (some f.failure)) (acceptance box materials default patches).failed
  unfolding count_if acceptance with_patch
  kind_many k e [] = refl
  kind_many k e (p ∷ ps) = go (failure_of box p) (count_if (λ p. k (failure_of box p)) ps) (verdicts ps) (kind_many k e ps)
    where
      go : (o : Option Failure) (n : ℕ) (rest : Acceptance) → n ≡ count_if (λ f. k (some f.failure)) rest.failed
          → cond (k o) (suc n) n ≡ count_if (λ f. k (some f.failure)) (with_patch p (material p) o rest).failed
      go none n rest h = ap (λ (b : Bool). cond b (suc n) n) e ∙ h
      go (some f) n rest h = ap (λ (m : ℕ). cond (k (some f)) (suc m) m) h

-- an upstream failure's number is from 1 to 255
abbrev pub Upstreamed : Option Failure → Type 0
Upstreamed none = Unit {0}
Upstreamed (some Empty) = Unit {0}
Upstreamed (some (Upstream n)) = (0 < n) × (n < 256)
Upstreamed (some (Escape reach span)) = Unit {0}

-- so is that of a row that passed check 12
failure_upstreamed : (box : Aabb) (p : Patch) → bad_row p.row ≡ false → Upstreamed (failure_of box p)
unfolding failure_by escape_of bad_row
failure_upstreamed box p e = go (eqb p.row.outcome 0) refl (eqb (length p.indices) 0) (escapes_body p.positions box)
  where
    low : p.row.outcome ≤ 255
    low = ltb-false 255 p.row.outcome (or_left (ltb 255 p.row.outcome) _ e)

    above : (eqb p.row.outcome 0 ≡ false) → 0 < p.row.outcome
    above q = other (eqb-false p.row.outcome 0 q)
      where
        other : (p.row.outcome ≡ 0 → ⊥) → 0 < p.row.outcome
        other f = omega arith

    go : (a : Bool) → eqb p.row.outcome 0 ≡ a → (b c : Bool)
        → Upstreamed (cond (not a) (some (Upstream p.row.outcome)) (cond b (some Empty) (cond c (some (Escape (farthest p.positions box) (diagonal box))) none)))
    go false q b c = (above q, omega (arith, low))
    go true q true c = tt
    go true q false true = tt
    go true q false false = tt

-- a failure of such a row
abbrev pub Known : Failed → Type 0
Known f = Upstreamed (some f.failure)

-- all failures of rows that passed it
pub failures_known : (box : Aabb) (materials : List ℕ) (default : ℕ) (patches : List Patch) → Each (λ p. bad_row p.row ≡ false) patches
    → Each Known (acceptance box materials default patches).failed
unfolding acceptance with_patch
failures_known box materials default [] e = tt
failures_known box materials default (p ∷ ps) e =
    go (failure_of box p) (failure_upstreamed box p e.0) (acceptance box materials default ps) (failures_known box materials default ps e.1)
  where
    go : (o : Option Failure) → Upstreamed o → (rest : Acceptance) → Each Known rest.failed
        → Each Known (with_patch p (material_of materials default p.row.face) o rest).failed
    go none u rest h = h
    go (some f) u rest h = (u, h)

-- ---- the table of failures

-- the case of each failure in a table of them: the third of its five numbers, 0 for empty, 1 to 255 for upstream, 256 for an escape
unfoldable pub cases_in : List ℕ → List ℕ
cases_in [] = []
cases_in (f ∷ []) = []
cases_in (f ∷ b ∷ []) = []
cases_in (f ∷ b ∷ c ∷ []) = []
cases_in (f ∷ b ∷ c ∷ r ∷ []) = []
cases_in (f ∷ b ∷ c ∷ r ∷ s ∷ rest) = c ∷ cases_in rest

-- five numbers a failure
pub failures_long : (fs : List Failed) → length (flat_map failure_numbers fs) ≡ failure_width * length fs
unfolding flat_map failure_numbers
failures_long [] = refl
failures_long (f ∷ fs) = go f.failure (failures_long fs)
  where
    go : (k : Failure) → length (flat_map failure_numbers fs) ≡ failure_width * length fs
        → length (failure_numbers (record { face = f.face; bin = f.bin; failure = k }) ++ flat_map failure_numbers fs) ≡ failure_width * suc (length fs)
    go Empty h = omega arith
    go (Upstream n) h = omega arith
    go (Escape reach span) h = omega arith

-- a test of failures, and one of cases that says the same of each known failure
pub record Tells (k : Option Failure → Bool) (t : ℕ → Bool) : Type 0 where
  pub empty : k (some Empty) ≡ t 0
  pub upstream : (n : ℕ) → 0 < n → n < 256 → k (some (Upstream n)) ≡ t n
  pub escape : (reach span : Float) → k (some (Escape reach span)) ≡ t 256

-- The table has as many such cases as there are such failures.
pub cases_many : {k : Option Failure → Bool} {t : ℕ → Bool} → Tells k t → (fs : List Failed) → Each Known fs
    → count_if (λ f. k (some f.failure)) fs ≡ count_if t (cases_in (flat_map failure_numbers fs))
unfolding count_if flat_map failure_numbers cases_in
cases_many {k} {t} h [] e = refl
cases_many {k} {t} h (f ∷ fs) e = go f.failure e.0 (cases_many h fs e.1)
  where
    rest : ℕ
    rest = count_if t (cases_in (flat_map failure_numbers fs))

    one : {n : ℕ} {b c : Bool} → b ≡ c → n ≡ rest → cond b (suc n) n ≡ cond c (suc rest) rest
    one p q = λ i. cond (p i) (suc (q i)) (q i)

    go : (x : Failure) → Upstreamed (some x) → count_if (λ f. k (some f.failure)) fs ≡ rest
        → cond (k (some x)) (suc (count_if (λ f. k (some f.failure)) fs)) (count_if (λ f. k (some f.failure)) fs)
        ≡ count_if t (cases_in (failure_numbers (record { face = f.face; bin = f.bin; failure = x }) ++ flat_map failure_numbers fs))
    go Empty u q = one h.empty q
    go (Upstream n) u q = one (h.upstream n u.0 u.1) q
    go (Escape reach span) u q = one (h.escape reach span) q

-- whether a case is that of an upstream failure
abbrev pub is_upstream_case : ℕ → Bool
is_upstream_case n = ltb 0 n && ltb n 256

-- what tells the kinds: no triangles,
pub tells_empty : Tells is_empty (eqb 0)
tells_empty = record { empty = refl; upstream = λ n l m. sym (ne_eqb 0 n (λ e. omega arith)); escape = λ r s. refl }

-- upstream,
pub tells_upstream : Tells is_upstream is_upstream_case
tells_upstream = record { empty = refl; upstream = λ n l m. (λ i. sym (lt-ltb 0 n l) i && sym (lt-ltb n 256 m) i); escape = λ r s. refl }

-- an escape
pub tells_escape : Tells is_escape (eqb 256)
tells_escape = record { empty = refl; upstream = λ n l m. sym (ne_eqb 256 n (λ e. omega arith)); escape = λ r s. refl }
