-- Turning: the walks of all groups, the turned body, and the call. Assumes nothing.
--
-- One walk over all rows is 01's shell by shell: two uses are of one edge only if their shells are equal, so no pair leaves a shell.
use Rattle.std.specs.Prelude.{true, false, ℕ, length, replicate, eqb, Float}
use mathlib.Core.List.{List, [], flat_map}
use Rattle.lists.specs.Lists.{count_if}
use Rattle.point_rules.specs.Rule.{Rule, names}
use Rattle.join_definition.specs.Join.{joined}
use Rattle.body_rows.specs.Body.{Row, Patch, rows_of, patches_of, first_failing, cleared}
use Rattle.body_refusals.specs.BodyChecks.{body_checks}
use Rattle.edge_uses.specs.Edges.{uses_from}
use Rattle.turn_definition.specs.Pairs.{pairs_of}
use Rattle.turn_walk.specs.Walk.{unvisited, coloured}
use Rattle.turn_definition.specs.Groups.{Walks, walks_from}
use Rattle.turn_definition.specs.Reversal.{turned_body}

-- the walks of a body whose vertices stand for the `points`
unfoldable pub walks_of : List Patch → List ℕ → Walks
walks_of patches points =
    walks_from patches (pairs_of (uses_from (λ r. r.shell) 0 points patches)) 0 patches
    (record { groups = []; colours = replicate (length patches) unvisited; against = 0 })

-- ---- the call

-- what turn answers (the refusal's number or 0, the turned rows, against) and what it leaves in the lent slices
pub record AfterTurn : Type 0 where
  pub refusal : ℕ
  pub turned : ℕ
  pub against : ℕ
  pub normals : List Float
  pub indices : List ℕ
  pub work : List ℕ

-- the call for a body that was accepted: coloured rows count as turned
unfoldable pub turn_body : List Row → List Patch → Walks → List ℕ → AfterTurn
turn_body rows patches w work =
    let done = turned_body w.colours patches in
    record {
      refusal = 0;
      turned = count_if (eqb coloured) w.colours;
      against = w.against;
      normals = flat_map (λ p. p.normals) done;
      indices = flat_map (λ p. p.indices) done;
      work = cleared rows work;
    }

-- A refusal is its number only; normals, indices and work area are unchanged.
unfoldable pub refuse_turn : ℕ → List Float → List ℕ → List ℕ → AfterTurn
refuse_turn n ns is work = record { refusal = n; turned = 0; against = 0; normals = ns; indices = is; work = work }

-- turn: table, positions, normals, indices and work area as they are lent, points joined by a rule
unfoldable pub turn_of : Rule → List ℕ → List Float → List Float → List ℕ → List ℕ → AfterTurn
turn_of rule table ps ns is work =
    let n = first_failing (body_checks table ps ns is (length work)) in
    elim (eqb n 0) [
      | true ↦ let patches = patches_of (rows_of table) ps ns is in turn_body (rows_of table) patches (walks_of patches (joined (names rule ps))) work
      | false ↦ refuse_turn n ns is work
    ]
