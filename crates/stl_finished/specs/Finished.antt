-- The mesh of accepted patches passes the checks of the STL writer: only a slice too short is refused. Assumes nothing.
use Rattle.std.specs.Prelude.{◌≡◌, refl, Bool, true, false, ℕ, ◌+◌, ◌*◌, ◌/◌, ◌%◌, ◌≤◌, eqb, Float}
use Rattle.std.proofs.Math.Path.{ap}
use Rattle.std.proofs.Common.{◌∙◌, arith, length-append, leb-false}
use Rattle.std.proofs.Math.Bool.{cond}
use mathlib.Core.List.{List, [], ◌∷◌, map, flat_map}
use Rattle.std.proofs.Math.ListN.{length}
use Rattle.std.proofs.Math.Dec.{leb}
use Rattle.std.proofs.lemmas.Bool.{lt-leb}
use Rattle.lists.specs.Lists.{any, sum_of}
use Rattle.lists.specs.Any.{any_append}
use Rattle.lists.specs.Each.{Each, each_all}
use Rattle.point_rules.specs.Points.{clamps}
use Rattle.body_rows.specs.Body.{Patch, first_failing}
use Rattle.mesh_acceptance.specs.Acceptance.{Accepted, accepted_vertices, accepted_indices}
use Rattle.mesh_layout.specs.Mesh.{vertices_of, Laid, laid_from, materials_of, run_of, runs_of}
use Rattle.mesh_layout.specs.LaidLaws.{laid_total}
use Rattle.mesh_layout.proofs.RunsLong.{runs_long}
use Rattle.body_patch_checks.specs.PatchTests.{not_finite}
use Rattle.stl_definition.specs.Write.{Held, in_two, mesh_checks}
use Rattle.stl_definition.specs.TestLaws.{first_not, rest_not, none_passes, neither}
use Rattle.stl_definition.specs.RowLaws.{row_checks}

-- what the checks 14 to 24 give of a patch
pub record SoundPatch (p : Patch) : Type 0 where
  pub all_positions : length p.positions ≡ 3 * p.row.vertices
  pub all_normals : length p.normals ≡ 3 * p.row.vertices
  pub threes : length p.indices % 3 ≡ 0
  pub inside : any (λ i. leb p.row.vertices i) p.indices ≡ false
  pub positions : any not_finite p.positions ≡ false
  pub normals : any not_finite p.normals ≡ false
  pub unclamped : any clamps p.positions ≡ false

-- of each accepted patch
abbrev pub SoundPatches : List Accepted → Type 0
SoundPatches accepted = Each (λ a. SoundPatch a.patch) accepted

-- ---- lists end to end

-- no item of lists of which none has one
any_flat : {A B : Type 0} (f : B → Bool) (g : A → List B) (xs : List A) → Each (λ x. any f (g x) ≡ false) xs → any f (flat_map g xs) ≡ false
unfolding flat_map any
any_flat f g [] e = refl
any_flat f g (x ∷ xs) e = any_append f (g x) (flat_map g xs) ∙ neither (any f (g x)) (any f (flat_map g xs)) e.0 (any_flat f g xs e.1)

-- what each patch has
each_patch : (Q : Accepted → Type 0) → ((a : Accepted) → SoundPatch a.patch → Q a) → (accepted : List Accepted) → SoundPatches accepted → Each Q accepted
each_patch Q f [] e = tt
each_patch Q f (a ∷ rest) e = (f a e.0, each_patch Q f rest e.1)

-- three floats a vertex
floats_all : (g : Accepted → List Float) (accepted : List Accepted) → Each (λ a. length (g a) ≡ 3 * a.patch.row.vertices) accepted
    → length (flat_map g accepted) ≡ 3 * accepted_vertices accepted
unfolding flat_map accepted_vertices sum_of
floats_all g [] e = refl
floats_all g (a ∷ rest) e = let r = floats_all g rest e.1 in omega (arith, length-append (g a) (flat_map g rest), e.0)

-- whole triangles
indices_whole : (accepted : List Accepted) → SoundPatches accepted → accepted_indices accepted % 3 ≡ 0
unfolding accepted_indices sum_of
indices_whole [] e = refl
indices_whole (a ∷ rest) e = let r = indices_whole rest e.1 in omega (arith, e.0.threes)

-- ---- indices

-- indices of a patch whose vertices start at base
moved_inside : (base v top : ℕ) (is : List ℕ) → base + v ≤ top → any (λ i. leb v i) is ≡ false → any (λ i. leb top i) (map (λ i. base + i) is) ≡ false
unfolding any
moved_inside base v top [] h e = refl
moved_inside base v top (i ∷ is) h e =
    let l = leb-false v i (first_not (leb v i) _ e) in
    none_passes (leb top (base + i)) _ (lt-leb top (base + i) (omega arith)) (moved_inside base v top is h (rest_not (leb v i) _ e))

-- those of each laid patch
laid_inside : (base top : ℕ) (accepted : List Accepted) → SoundPatches accepted → base + accepted_vertices accepted ≤ top
    → Each (λ l. any (λ i. leb top i) l.indices ≡ false) (laid_from base accepted)
unfolding laid_from accepted_vertices sum_of
laid_inside base top [] e h = tt
laid_inside base top (a ∷ rest) e h =
    (moved_inside base a.patch.row.vertices top a.patch.indices (omega arith) e.0.inside, laid_inside (base + a.patch.row.vertices) top rest e.1 (omega arith))

-- those of a run
run_inside : (f : ℕ → Bool) (ls : List Laid) (m : ℕ) → Each (λ l. any f l.indices ≡ false) ls → any f (run_of ls m) ≡ false
unfolding run_of any
run_inside f ls m e = any_flat f (λ l. cond (eqb l.material m) l.indices []) ls (kept ls e)
  where
    pick : (b : Bool) (is : List ℕ) → any f is ≡ false → any f (cond b is []) ≡ false
    pick true is q = q
    pick false is q = refl

    kept : (ls : List Laid) → Each (λ l. any f l.indices ≡ false) ls → Each (λ l. any f (cond (eqb l.material m) l.indices []) ≡ false) ls
    kept [] q = tt
    kept (l ∷ ls) q = (pick (eqb l.material m) l.indices q.0, kept ls q.1)

-- those of all runs
runs_inside : (f : ℕ → Bool) (ls : List Laid) → Each (λ l. any f l.indices ≡ false) ls → any f (runs_of ls) ≡ false
unfolding runs_of
runs_inside f ls e = any_flat f (run_of ls) (materials_of ls) (each_all (λ m. any f (run_of ls m) ≡ false) (λ m. run_inside f ls m e) (materials_of ls))

-- ---- the mesh

-- its vertices, as the writer is lent them
abbrev pub held_mesh : List Accepted → Held
held_mesh accepted = in_two (vertices_of accepted).positions (vertices_of accepted).normals

-- its indices
abbrev pub mesh_indices : List Accepted → List ℕ
mesh_indices accepted = runs_of (laid_from 0 accepted)

module _ (accepted : List Accepted) (sound : SoundPatches accepted) (few : accepted_vertices accepted ≤ 262144) (short : accepted_indices accepted ≤ 786432) where
  -- The mesh of sound patches within 13's limits passes the writer's checks to 24.
  pub finished_passes : first_failing (mesh_checks (held_mesh accepted) (mesh_indices accepted)) ≡ 0
  unfolding mesh_checks vertices_of
  finished_passes =
      let ps = flat_map (λ (a : Accepted). a.patch.positions) accepted in
      let ns = flat_map (λ (a : Accepted). a.patch.normals) accepted in
      let is = runs_of (laid_from 0 accepted) in
      let p = floats_all (λ a. a.patch.positions) accepted (each_patch (λ a. length a.patch.positions ≡ 3 * a.patch.row.vertices) (λ a s. s.all_positions) accepted sound) in
      let n = floats_all (λ a. a.patch.normals) accepted (each_patch (λ a. length a.patch.normals ≡ 3 * a.patch.row.vertices) (λ a s. s.all_normals) accepted sound) in
      let k : length is ≡ accepted_indices accepted = runs_long (laid_from 0 accepted) ∙ laid_total 0 accepted in
      let w = indices_whole accepted sound in
      row_checks (length ps / 3) ps ns is
      (record {
        vertices = omega arith;
        indices = omega arith;
        all_positions = omega arith;
        all_normals = omega arith;
        threes = omega arith;
        inside = runs_inside (λ i. leb (length ps / 3) i) (laid_from 0 accepted) (laid_inside 0 (length ps / 3) accepted sound (omega arith));
        positions = any_flat not_finite (λ a. a.patch.positions) accepted (each_patch (λ a. any not_finite a.patch.positions ≡ false) (λ a s. s.positions) accepted sound);
        normals = any_flat not_finite (λ a. a.patch.normals) accepted (each_patch (λ a. any not_finite a.patch.normals ≡ false) (λ a s. s.normals) accepted sound);
      })
      ∙ ap (λ (b : Bool). cond b 24 0)
      (any_flat clamps (λ a. a.patch.positions) accepted (each_patch (λ a. any clamps a.patch.positions ≡ false) (λ a s. s.unclamped) accepted sound))
