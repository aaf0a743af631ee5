-- The page of the report (request N7): its sums, its share, and a body added. Assumes nothing.
use Rattle.std.specs.Prelude.{Bool, true, false, not, cond, List, ℕ, ◌+◌, ◌/◌, length, eqb}
use Rattle.std.proofs.Math.Option.{Option, none, some}
use Rattle.lists.specs.Lists.{count_if, filter, sum_of}
use Rattle.body_rows.specs.Body.{Patch, triangles_of}
use Rattle.patch_geometry.specs.declared.Aabb.{Aabb}
use Rattle.mesh_verdicts.specs.declared.Failure.{Failure}
use Rattle.mesh_verdicts.specs.declared.Failure.TheVariants.{Empty, Upstream, Escape}
use Rattle.mesh_verdicts.specs.Failures.{failure_of}
use Rattle.report_definition.specs.declared.Page.{Page}
use Rattle.report_definition.specs.Divisor.{gcd}

-- ---- the share

-- the accepted share: so many accepted of so many faces
pub record Share : Type 0 where
  pub accepted : ℕ
  pub faces : ℕ

-- The accepted share is a reduced fraction, 1/1 for no faces.
unfoldable pub share_of : ℕ → ℕ → Share
share_of accepted faces =
    let d = gcd accepted faces in
    cond (eqb faces 0) (record { accepted = 1; faces = 1 }) (record { accepted = accepted / d; faces = faces / d })

-- ---- the sums

-- The numbers of a page that are added up: bodies; faces accepted and failed; the meshes' triangles and vertices; failures by kind; faces listed.
pub record Sums : Type 0 where
  pub bodies : ℕ
  pub accepted : ℕ
  pub failed : ℕ
  pub triangles : ℕ
  pub vertices : ℕ
  pub empty : ℕ
  pub upstream : ℕ
  pub escaped : ℕ
  pub listed : ℕ

-- no bodies
abbrev pub no_sums : Sums
no_sums = record { bodies = 0; accepted = 0; failed = 0; triangles = 0; vertices = 0; empty = 0; upstream = 0; escaped = 0; listed = 0 }

-- the sums of two, number by number
abbrev pub plus : Sums → Sums → Sums
plus s t =
    record {
      bodies = s.bodies + t.bodies;
      accepted = s.accepted + t.accepted;
      failed = s.failed + t.failed;
      triangles = s.triangles + t.triangles;
      vertices = s.vertices + t.vertices;
      empty = s.empty + t.empty;
      upstream = s.upstream + t.upstream;
      escaped = s.escaped + t.escaped;
      listed = s.listed + t.listed;
    }

-- the sums of a page; its share is not read
abbrev pub sums_of : Page → Sums
sums_of p =
    record {
      bodies = p.bodies;
      accepted = p.accepted;
      failed = p.failed;
      triangles = p.triangles;
      vertices = p.vertices;
      empty = p.empty;
      upstream = p.upstream;
      escaped = p.escaped;
      listed = p.listed;
    }

-- the page of some sums, with the share that they make
abbrev pub page_with : Sums → Page
page_with s =
    record {
      bodies = s.bodies;
      accepted = s.accepted;
      failed = s.failed;
      triangles = s.triangles;
      vertices = s.vertices;
      empty = s.empty;
      upstream = s.upstream;
      escaped = s.escaped;
      listed = s.listed;
      share_accepted = (share_of s.accepted (s.accepted + s.failed)).accepted;
      share_faces = (share_of s.accepted (s.accepted + s.failed)).faces;
    }

-- the empty page
abbrev pub empty_page : Page
empty_page = page_with no_sums

-- ---- a body

-- whether a row is accepted
abbrev pub is_accepted : Option Failure → Bool
is_accepted none = true
is_accepted (some f) = false

-- whether it failed for having no triangles
abbrev pub is_empty : Option Failure → Bool
is_empty none = false
is_empty (some Empty) = true
is_empty (some (Upstream n)) = false
is_empty (some (Escape reach span)) = false

-- whether it failed upstream
abbrev pub is_upstream : Option Failure → Bool
is_upstream none = false
is_upstream (some Empty) = false
is_upstream (some (Upstream n)) = true
is_upstream (some (Escape reach span)) = false

-- whether it escapes
abbrev pub is_escape : Option Failure → Bool
is_escape none = false
is_escape (some Empty) = false
is_escape (some (Upstream n)) = false
is_escape (some (Escape reach span)) = true

-- the accepted rows of a body with its box
unfoldable pub accepted_of : Aabb → List Patch → List Patch
accepted_of box patches = filter (λ p. is_accepted (failure_of box p)) patches

-- What a body with its box adds: its faces are its rows, and its mesh has the triangles and vertices, used or not, of the accepted ones. So many of its faces are listed.
unfoldable pub body_sums : Aabb → List Patch → ℕ → Sums
body_sums box patches entries =
    record {
      bodies = 1;
      accepted = count_if (λ p. is_accepted (failure_of box p)) patches;
      failed = count_if (λ p. not (is_accepted (failure_of box p))) patches;
      triangles = sum_of (λ p. length (triangles_of p.indices)) (accepted_of box patches);
      vertices = sum_of (λ p. p.row.vertices) (accepted_of box patches);
      empty = count_if (λ p. is_empty (failure_of box p)) patches;
      upstream = count_if (λ p. is_upstream (failure_of box p)) patches;
      escaped = count_if (λ p. is_escape (failure_of box p)) patches;
      listed = entries;
    }
