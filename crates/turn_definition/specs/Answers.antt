-- Turn's answer as an enum, with what the lent slices hold; an accepted body turned. Assumes nothing.
use Rattle.std.specs.Prelude.{true, false, List, ℕ, eqb, Float, Result, Ok, Err}
use Rattle.point_rules.specs.Rule.{names}
use Rattle.point_rules.specs.Points.{key}
use Rattle.join_definition.specs.Join.{joined}
use Rattle.body_rows.specs.Body.{rows_of, patches_of}
use Rattle.turn_definition.specs.declared.TurnCounts.{TurnCounts}
use Rattle.turn_definition.specs.Orient.{AfterTurn, walks_of, turn_body}

-- ---- an accepted body

-- an accepted body turned, by the definition
abbrev pub turn_done : List ℕ → List Float → List Float → List ℕ → List ℕ → AfterTurn
turn_done table ps ns is work =
    turn_body (rows_of table) (patches_of (rows_of table) ps ns is) (walks_of (patches_of (rows_of table) ps ns is) (joined (names key ps))) work

-- the counts, and what the lent slices hold
abbrev pub left_done : TurnCounts → List Float → List ℕ → List ℕ → AfterTurn
left_done c ns is work = record { refusal = 0; turned = c.turned; against = c.against; normals = ns; indices = is; work = work }

-- ---- the call

-- turn's answer, and what the lent slices hold
pub record Left : Type 0 where
  pub answer : Result TurnCounts ℕ
  pub normals : List Float
  pub indices : List ℕ
  pub work : List ℕ

-- the answer with the slices
abbrev pub left : Result TurnCounts ℕ → List Float → List ℕ → List ℕ → Left
left a ns is work = record { answer = a; normals = ns; indices = is; work = work }

-- 01's number and values for each answer: the counts where no check fails, else the number of the first that does
abbrev pub answer_of : AfterTurn → Result TurnCounts ℕ
answer_of t = elim (eqb t.refusal 0) [ true ↦ Ok (record { turned = t.turned; against = t.against }) | false ↦ Err t.refusal ]

-- what the definition says of the call, with the answer as turn gives it
abbrev pub answered : AfterTurn → Left
answered t = left (answer_of t) t.normals t.indices t.work
